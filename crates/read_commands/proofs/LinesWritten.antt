-- The lines of objects with names, written one after another, and which name a line has.
use Rattle.std.proofs.Common.{◌≡◌, ◌≢◌, ◌++◌, ◌+◌, ◌<◌, [], ◌∷◌, ℕ, List, Bool, true, false, Option, None, Some, ap, append_assoc, drop, get_or, length, refl, subst, sym, ◌∙◌}
use Rattle.std.specs.Io.KnownBytes.{Appends}
use Rattle.std.specs.List.{flat_map, list_all}
use Rattle.std.specs.Prelude.{◌&&◌, IfNone, IfSome, nat_lt}
use Rattle.std.specs.Str.{IsUtf8, chars, is_utf8}
use Rattle.std.proofs.KnownBytes.{Appends-trans}
use Rattle.std.proofs.lemmas.Bool.{and_parts, lt-ltb, ltb-true}
use Rattle.std.proofs.lemmas.List.{drop_more}
use Rattle.std.proofs.lemmas.Str.{IsUtf8-from_is_utf8}
use Rattle.base.specs.declared.names.ObjectId.{ObjectId}
use Rattle.object_names.specs.NameTables.{IsNamed, name_at}
use Rattle.object_names.specs.Names.{IsName, is_name_char, is_name_length, is_name_text}
use Rattle.read_commands.specs.NamedLines.{line_by, may_have_name, name_if, name_shown, named_line}

-- one line more is written
pub next_line : {A : Type 0} (line : A → List ℕ) (all : List A) (i : ℕ) (d : A) (before now after : Option (List ℕ)) (front : List ℕ) → i < length all → Appends before now front
    → flat_map line all ≡ front ++ flat_map line (drop i all) → Appends now after (line (get_or all i d))
    → (lines : List ℕ) × Appends before after lines × (flat_map line all ≡ lines ++ flat_map line (drop (i + 1) all))
next_line line all i d before now after front within written left more =
    let next = line (get_or all i d) in (
      front ++ next,
      Appends-trans before now after front next written more,
      left ∙ ap (λ l. front ++ flat_map line l) (drop_more all i d within) ∙ sym (append_assoc front next (flat_map line (drop (i + 1) all))),
    )

both : (a b : Bool) → a ≡ true → b ≡ true → (a && b) ≡ true
both a b first second = rw (first, second) refl

shown_if : (may : Bool) (at name : List ℕ) → may ≡ true → at ≡ name → name ≢ [] → name_if may at ≡ Some name
shown_if may at [] so same some = absurd (some refl)
shown_if may at (byte ∷ bytes) so same some = rw (so, same) refl

not_nil : (byte : ℕ) (bytes : List ℕ) → byte ∷ bytes ≢ []
not_nil byte bytes same = cc

-- a name that an object has is shown
pub shown_named : (table name : List ℕ) (n : ℕ) → IsNamed table n name → name_shown (Some table) n ≡ Some name
shown_named table name n is =
    shown_if (may_have_name n) (name_at table n) name (both (nat_lt 0 n) (nat_lt n 5292) (lt-ltb 0 n is.number) (lt-ltb n 5292 is.few)) is.name_is is.some

-- and none of an object that has none
pub shown_unnamed : (table : List ℕ) (n : ℕ) → ((name : List ℕ) → IsNamed table n name → ⊥) → name_shown (Some table) n ≡ None
shown_unnamed table n none = by (may_have_name n) (name_at table n) refl refl
  where
    by : (may : Bool) (at : List ℕ) → may_have_name n ≡ may → name_at table n ≡ at → name_if may at ≡ None
    by false at is same = refl
    by true [] is same = refl
    by true (byte ∷ bytes) is same =
        let parts = and_parts (nat_lt 0 n) (nat_lt n 5292) is in
        absurd (none (byte ∷ bytes) (record { number = ltb-true 0 n parts.0; few = ltb-true n 5292 parts.1; name_is = same; some = not_nil byte bytes }))

-- a name is text
pub name_text : (name : List ℕ) → IsName name → IsUtf8 name
name_text name is =
    let inner = and_parts (is_name_length (length name)) (is_name_text name) is in
    IsUtf8-from_is_utf8 name (and_parts (is_utf8 name) (list_all is_name_char (chars name)) inner.1).0

-- the line of an object is written with the name that it has, or without one
pub line_written : {Str : Type 0} (of : Str → List ℕ) (table : Option (List ℕ)) (object : ObjectId) (size : ℕ) (name : Option Str) (now after : Option (List ℕ)) → IfSome name (λ n. name_shown table object.0 ≡ Some (of n)) → IfNone name (name_shown table object.0 ≡ None)
    → IfSome name (λ n. Appends now after (named_line object size (Some (of n)))) → IfNone name (Appends now after (named_line object size None)) → Appends now after (line_by table (object, size))
line_written of table object size (Some n) now after is none named unnamed = subst (λ (o : Option (List ℕ)). Appends now after (named_line object size o)) (sym is) named
line_written of table object size None now after is none named unnamed = subst (λ (o : Option (List ℕ)). Appends now after (named_line object size o)) (sym none) unnamed
