-- One object through a history.
use Rattle.std.proofs.Common.{◌≡◌, ℕ, ◌≢◌, List, [], ◌∷◌, Option, Some, None, Result, Ok, refl, ap, sym, ◌∙◌, inl, inr, ◌⊎◌, cond}
use Rattle.std.specs.Prelude.{map, fold, flat_map, option_map, ◌==◌}
use Rattle.std.specs.FinMap as maps
use Rattle.std.proofs.lemmas.Bool.{cases_eq, eq-eqb, ne_eqb}
use Rattle.std.proofs.lemmas.List.Sums.{fold-append}
use Rattle.base.specs.declared.operation.Op.{Op}
use Rattle.base.specs.declared.operation.Op.TheVariants.{Create, Remove, Write, SetLength, SetName}
use Rattle.base.specs.declared.error.PoolError.{PoolError}
use Rattle.base.specs.history.Sequences.{in_turn}
use Rattle.base.specs.history.Contents.{Contents, at_object, with_object, apply, created, removed, changed, resize, bytes_after_write, object_after}
use Rattle.base.specs.history.Plans.{touched, shape_of, ranges, plan_ranges}
use Rattle.base.specs.history.History.{Entry, run, replay}
use Rattle.base.proofs.common.Sequences.{parted}
use Rattle.base.proofs.history.Objects.{reached, get-stored_same, get-stored_other}

pub plans_touch : (ops : List Op) → ranges ops ≡ plan_ranges (map shape_of ops)
plans_touch [] = refl
plans_touch (op ∷ ops) = ap (λ ts. touched op ∷ ts) (plans_touch ops)

-- a number of what was made, by what each step makes of it
viewed : {X A V : Type 0} (run : X → A → Result A PoolError) (view : A → V) (step : V → X → V) → ((x : X) (a b : A) → run x a ≡ Ok b → view b ≡ step (view a) x)
    → (xs : List X) (a b : A) → in_turn run xs a ≡ Ok b → view b ≡ fold step (view a) xs
viewed run view step each [] a b h = let e : a ≡ b = cc in ap view (sym e)
viewed run view step each (x ∷ xs) a b h =
    let p = parted (run x a) (in_turn run xs) b h in
    viewed run view step each xs p.0 b p.2 ∙ ap (λ v. fold step v xs) (each x a p.0 p.1)

one_object : (m : ℕ) (f : Option (List ℕ) → Result (Option (List ℕ)) PoolError) (g : Option (List ℕ) → Option (List ℕ)) → ((o p : Option (List ℕ)) → f o ≡ Ok p → p ≡ g o)
    → (n : ℕ) (c d : Contents) → at_object m f c ≡ Ok d → maps.get d.objects n ≡ cond (n == m) (g (maps.get c.objects n)) (maps.get c.objects n)
one_object m f g gives n c d h = go (cases_eq n m) (reached m f c d h)
  where
    go : (n ≡ m) ⊎ (n ≢ m) → (o : Option (List ℕ)) × (f (maps.get c.objects m) ≡ Ok o) × (with_object c m o ≡ d)
        → maps.get d.objects n ≡ cond (n == m) (g (maps.get c.objects n)) (maps.get c.objects n)
    go (inl e) (o, first, is) =
        ap (λ (x : Contents). maps.get x.objects n) (sym is) ∙ rw (eq-eqb n m e) (rw e (get-stored_same c.objects m o ∙ gives (maps.get c.objects m) o first))
    go (inr ne) (o, first, is) =
        ap (λ (x : Contents). maps.get x.objects n) (sym is) ∙ rw (ne_eqb n m ne) (get-stored_other c.objects m o n ne)

gives_created : (o p : Option (List ℕ)) → created o ≡ Ok p → p ≡ Some []
gives_created None p h = cc
gives_created (Some bytes) p h = cc

pub gives_removed : (o p : Option (List ℕ)) → removed o ≡ Ok p → p ≡ None
gives_removed None p h = cc
gives_removed (Some bytes) p h = cc

gives_changed : (f : List ℕ → List ℕ) (o p : Option (List ℕ)) → changed f o ≡ Ok p → p ≡ option_map f o
gives_changed f None p h = cc
gives_changed f (Some bytes) p h = cc

one_operation : (n : ℕ) (op : Op) (c d : Contents) → apply op c ≡ Ok d → maps.get d.objects n ≡ object_after n op (maps.get c.objects n)
one_operation n (Create m) c d h = one_object m.0 created (λ o. Some []) gives_created n c d h
one_operation n (Remove m) c d h = one_object m.0 removed (λ o. None) gives_removed n c d h
one_operation n (Write m offset bytes) c d h = one_object m.0 (changed (bytes_after_write offset bytes)) (option_map (bytes_after_write offset bytes)) (gives_changed (bytes_after_write offset bytes)) n c d h
one_operation n (SetLength m size) c d h = one_object m.0 (changed (resize size)) (option_map (resize size)) (gives_changed (resize size)) n c d h
one_operation n (SetName bytes) c d h = let e : record { name = bytes; objects = c.objects } ≡ d = cc in ap (λ (x : Contents). maps.get x.objects n) (sym e)

fold-flat_map : {X Y V : Type 0} (step : V → Y → V) (f : X → List Y) (xs : List X) (v : V) → fold (λ u x. fold step u (f x)) v xs ≡ fold step v (flat_map f xs)
fold-flat_map step f [] v = refl
fold-flat_map step f (x ∷ xs) v = fold-flat_map step f xs (fold step v (f x)) ∙ sym (fold-append step v (f x) (flat_map f xs))

pub objects_replay : (entries : List Entry) (base now : Contents) (n : ℕ) → replay entries base ≡ Ok now
    → maps.get now.objects n ≡ fold (λ o op. object_after n op o) (maps.get base.objects n) (flat_map (λ (e : Entry). e.ops) entries)
objects_replay entries base now n h =
    viewed run (λ (c : Contents). maps.get c.objects n) (λ o (e : Entry). fold (λ o op. object_after n op o) o e.ops)
    (λ e c d k. viewed apply (λ (c : Contents). maps.get c.objects n) (λ o op. object_after n op o) (one_operation n) e.ops c d k) entries base now h
    ∙ fold-flat_map (λ o op. object_after n op o) (λ (e : Entry). e.ops) entries (maps.get base.objects n)
