-- After operations the name of the contents is the one that they give last, else the one of before.
use Rattle.std.proofs.Common.{◌≡◌, ℕ, List, [], ◌∷◌, ◌++◌, ap, sym, ◌∙◌, false, refl}
use Rattle.std.specs.Prelude.{Option, None, Some, Ok, Result, flat_map, unwrap_or}
use Rattle.std.specs.List.{list_any}
use Rattle.std.specs.FinMap as finite
use Rattle.std.proofs.lemmas.Bool.{false≢true}
use Rattle.base.specs.declared.error.PoolError.{PoolError}
use Rattle.base.specs.declared.operation.Op.{Op}
use Rattle.base.specs.declared.operation.Op.TheVariants.{Create, Remove, Write, SetLength, SetName}
use Rattle.base.specs.history.Sequences.{in_turn}
use Rattle.base.specs.history.Contents.{Contents, apply, at_object, with_object, created, removed, changed, bytes_after_write, resize, name_given, name_given_by_all}
use Rattle.base.specs.history.History.{Entry, replay, run}
use Rattle.base.specs.tree.Syncs.{is_rename}
use Rattle.base.proofs.common.Sequences.{parted}

name-at_object : (n : ℕ) (f : Option (List ℕ) → Result (Option (List ℕ)) PoolError) (c d : Contents) → at_object n f c ≡ Ok d → d.name ≡ c.name
name-at_object n f c d h =
    let p = parted (f (finite.get c.objects n)) (λ (object : Option (List ℕ)). Ok (with_object c n object)) d h in
    let is : Ok (with_object c n p.0) ≡ Ok d = p.2 in
    let same : with_object c n p.0 ≡ d = cc in
    ap (λ (e : Contents). e.name) (sym same)

-- with the name that was given before, if one was, or else the one that stood first
pub name-apply : (op : Op) (given : Option (List ℕ)) (first : List ℕ) (c d : Contents) → c.name ≡ unwrap_or given first → apply op c ≡ Ok d → d.name ≡ unwrap_or (name_given op given) first
name-apply (Create n) given first c d named h = name-at_object n.0 created c d h ∙ named
name-apply (Remove n) given first c d named h = name-at_object n.0 removed c d h ∙ named
name-apply (Write n offset bytes) given first c d named h = name-at_object n.0 (changed (bytes_after_write offset bytes)) c d h ∙ named
name-apply (SetLength n size) given first c d named h = name-at_object n.0 (changed (resize size)) c d h ∙ named
name-apply (SetName bytes) given first c d named h =
    let is : Ok (record { name = bytes; objects = c.objects }) ≡ Ok d = h in
    let same : record { name = bytes; objects = c.objects } ≡ d = cc in
    ap (λ (e : Contents). e.name) (sym same)

pub name-apply_all : (ops : List Op) (given : Option (List ℕ)) (first : List ℕ) (c d : Contents) → c.name ≡ unwrap_or given first → in_turn apply ops c ≡ Ok d
    → d.name ≡ unwrap_or (name_given_by_all ops given) first
name-apply_all [] given first c d named h = let same : c ≡ d = cc in ap (λ (e : Contents). e.name) (sym same) ∙ named
name-apply_all (op ∷ ops) given first c d named h =
    let p = parted (apply op c) (in_turn apply ops) d h in
    name-apply_all ops (name_given op given) first p.0 d (name-apply op given first c p.0 named p.1) p.2

-- operations after others, and over a name that was given before
pub given-append : (xs ys : List Op) (given : Option (List ℕ)) → name_given_by_all (xs ++ ys) given ≡ name_given_by_all ys (name_given_by_all xs given)
given-append [] ys given = refl
given-append (op ∷ xs) ys given = given-append xs ys (name_given op given)

pub given-over : (ops : List Op) (given : Option (List ℕ)) (first : List ℕ) → unwrap_or (name_given_by_all ops given) first ≡ unwrap_or (name_given_by_all ops None) (unwrap_or given first)
given-over [] given first = refl
given-over (Create n ∷ ops) given first = given-over ops given first
given-over (Remove n ∷ ops) given first = given-over ops given first
given-over (Write n offset bytes ∷ ops) given first = given-over ops given first
given-over (SetLength n size ∷ ops) given first = given-over ops given first
given-over (SetName bytes ∷ ops) given first = given-over ops (Some bytes) first ∙ sym (given-over ops (Some bytes) (unwrap_or given first))

-- the name after entries
pub name-replay : (entries : List Entry) (given : Option (List ℕ)) (first : List ℕ) (c d : Contents) → c.name ≡ unwrap_or given first → replay entries c ≡ Ok d
    → d.name ≡ unwrap_or (name_given_by_all (flat_map (λ (e : Entry). e.ops) entries) given) first
name-replay [] given first c d named h = let same : c ≡ d = cc in ap (λ (e : Contents). e.name) (sym same) ∙ named
name-replay (e ∷ entries) given first c d named h =
    let p = parted (run e c) (in_turn run entries) d h in
    name-replay entries (name_given_by_all e.ops given) first p.0 d (name-apply_all e.ops given first c p.0 named p.1) p.2
    ∙ ap (λ (o : Option (List ℕ)). unwrap_or o first) (sym (given-append e.ops (flat_map (λ (x : Entry). x.ops) entries) given))

-- operations of which none gives a name
pub name-unnamed : (ops : List Op) (given : Option (List ℕ)) → list_any is_rename ops ≡ false → name_given_by_all ops given ≡ given
name-unnamed [] given none = refl
name-unnamed (Create n ∷ ops) given none = name-unnamed ops given none
name-unnamed (Remove n ∷ ops) given none = name-unnamed ops given none
name-unnamed (Write n offset bytes ∷ ops) given none = name-unnamed ops given none
name-unnamed (SetLength n size ∷ ops) given none = name-unnamed ops given none
name-unnamed (SetName bytes ∷ ops) given none = absurd (false≢true (sym none))
