-- What is written of a list: by a loop, between two texts, and as JSON.
use Rattle.std.proofs.Common.{◌≡◌, ◌++◌, ◌+◌, ◌<◌, ◌∷◌, ap, append_assoc, drop, get_or, length, ℕ, List, subst, sym, ◌∙◌}
use Rattle.std.specs.Io.KnownBytes.{Appends}
use Rattle.std.specs.List.{flat_map}
use Rattle.std.specs.Prelude.{Option, codes}
use Rattle.std.proofs.KnownBytes.{Appends-trans}
use Rattle.std.proofs.lemmas.List.{drop_more}
use Rattle.base.specs.declared.names.ObjectId.{ObjectId}
use Rattle.read_commands.specs.Json.{json_next, json_object, json_objects}

-- the text of one element more is written
pub next_text : {A : Type 0} (text : A → List ℕ) (all : List A) (i : ℕ) (d : A) (before now after : Option (List ℕ)) (front : List ℕ) → i < length all → Appends before now front
    → flat_map text all ≡ front ++ flat_map text (drop i all) → Appends now after (text (get_or all i d))
    → (lines : List ℕ) × Appends before after lines × (flat_map text all ≡ lines ++ flat_map text (drop (i + 1) all))
next_text {A} text all i d before now after front within written left line =
    let one = get_or all i d in (
      front ++ text one,
      Appends-trans before now after front (text one) written line,
      left ∙ ap (λ (l : List A). front ++ flat_map text l) (drop_more all i d within) ∙ sym (append_assoc front (text one) (flat_map text (drop (i + 1) all))),
    )

-- three texts are written, one after the other
pub three_written : (a b c d : Option (List ℕ)) (x y z : List ℕ) → Appends a b x → Appends b c y → Appends c d z → Appends a d (x ++ (y ++ z))
three_written a b c d x y z one two three = Appends-trans a b d x (y ++ z) one (Appends-trans b c d y z two three)

-- the first object, the others and the end are a list of them
pub objects_written : (all rest : List (ObjectId × ℕ)) (first : ObjectId × ℕ) (a b c d : Option (List ℕ)) → all ≡ first ∷ rest
    → Appends a b (codes "[" ++ json_object first) → Appends b c (flat_map json_next rest) → Appends c d (codes "]}\n") → Appends a d (json_objects all)
objects_written all rest first a b c d is one others end =
    let texts = Appends-trans a c d ((codes "[" ++ json_object first) ++ flat_map json_next rest) (codes "]}\n")
    (Appends-trans a b c (codes "[" ++ json_object first) (flat_map json_next rest) one others) end in
    subst (λ (l : List (ObjectId × ℕ)). Appends a d (json_objects l)) (sym is)
    (subst (λ (t : List ℕ). Appends a d t) (ap (λ (t : List ℕ). codes "[" ++ t) (append_assoc (json_object first) (flat_map json_next rest) (codes "]}\n"))) texts)
