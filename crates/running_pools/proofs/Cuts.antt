-- What a crash leaves of a run of which each entry is acknowledged: the replay of all of them.
use Rattle.std.proofs.Common.{◌≡◌, ◌<◌, ◌∷◌, [], ℕ, zero, suc, List, Ok, Err, ap, arith, false, get_or, inl, inr, length, map, refl, subst, sym, true, ◌==◌, ◌||◌, ◌∙◌, ◌⊎◌}
use Rattle.std.specs.Prelude.{All, Bool, Result, Some, slice_get}
use Rattle.std.proofs.lemmas.Bool.{eqb-true, false≢true, or_cases}
use Rattle.std.proofs.lemmas.List.Elements.{All-head, All-tail}
use Rattle.base.specs.declared.error.PoolError.{PoolError}
use Rattle.base.specs.declared.operation.Op.{Op}
use Rattle.base.specs.history.Contents.{Contents}
use Rattle.base.specs.history.History.{Entry, apply_all, kept, replay, run}
use Rattle.base.specs.history.Past.{Past}
use Rattle.base.specs.history.Sequences.{and_then, in_turn}
use Rattle.base.specs.steps.Explains.{IsLeftBy}
use Rattle.base.specs.steps.Locks.{is_in}
use Rattle.base.proofs.common.KeptLists.{at_within}
use Rattle.base.proofs.common.Sequences.{parted}
use Rattle.running_pools.proofs.Adds.{ops_of}
use Rattle.running_pools.proofs.Sounds.{AllAcknowledged}

-- what is acknowledged is marked
pub marked : (marks : List Bool) (acknowledged : List ℕ) (o : ℕ) → All (λ k. get_or marks k false ≡ true) acknowledged → is_in o acknowledged ≡ true → get_or marks o false ≡ true
marked marks [] o all is = absurd (false≢true is)
marked marks (x ∷ xs) o all is = by (marked marks xs o (All-tail (λ k. get_or marks k false ≡ true) x xs all)) (or_cases (o == x) (is_in o xs) is)
  where
    by : (is_in o xs ≡ true → get_or marks o false ≡ true) → ((o == x) ≡ true) ⊎ (is_in o xs ≡ true) → get_or marks o false ≡ true
    by rest (inl same) = subst (λ (k : ℕ). get_or marks k false ≡ true) (sym (eqb-true o x same)) (All-head (λ k. get_or marks k false ≡ true) x xs all)
    by rest (inr later) = rest later

-- entries that are all marked are all kept
all_kept : (marks : List Bool) (entries : List Entry) → length marks ≡ length entries → ((k : ℕ) → k < length entries → get_or marks k false ≡ true) → kept marks entries ≡ entries
all_kept [] [] same each = refl
all_kept [] (e ∷ entries) same each = absurd (let no : 0 ≡ suc (length entries) = same in omega (arith, no))
all_kept (mark ∷ marks) [] same each = absurd (let no : suc (length marks) ≡ 0 = same in omega (arith, no))
all_kept (true ∷ marks) (e ∷ entries) same each =
    ap (λ (l : List Entry). e ∷ l)
    (all_kept marks entries (let alike : suc (length marks) ≡ suc (length entries) = same in let fewer : length marks ≡ length entries = omega (arith, alike) in fewer) (λ k low. each (suc k) (let more : suc k < suc (length entries) = omega (arith, low) in more)))
all_kept (false ∷ marks) (e ∷ entries) same each = absurd (false≢true (each 0 (let some : 0 < suc (length entries) = omega arith in some)))

-- entries are replayed as their operations are
replayed : (entries : List Entry) (c : Contents) → replay entries c ≡ in_turn apply_all (ops_of entries) c
replayed [] c = refl
replayed (e ∷ entries) c = by (λ d. replayed entries d) (apply_all e.ops c)
  where
    by : ((d : Contents) → replay entries d ≡ in_turn apply_all (ops_of entries) d) → (r : Result Contents PoolError) → and_then r (in_turn run entries) ≡ and_then r (in_turn apply_all (ops_of entries))
    by rest (Ok d) = rest d
    by rest (Err e) = refl

module _ (past : Past) (all : AllAcknowledged past) (c : Contents) (left : IsLeftBy past c) where
  each_marked : (k : ℕ) → k < length past.entries → get_or left.marks k false ≡ true
  each_marked k low = let (e, at) = at_within past.entries k low in marked left.marks past.acknowledged k left.acknowledged (all k e at)

  pub replays_all : in_turn apply_all (ops_of past.entries) past.base ≡ Ok c
  replays_all =
      sym (replayed past.entries past.base)
      ∙ ap (λ (l : List Entry). replay l past.base) (sym (all_kept left.marks past.entries left.cut.each each_marked))
      ∙ left.replayed

-- What operations keep of contents: so it is of those before them and after them, if they take place.
abbrev pub Preserves : (Contents → Contents → Type 0) → List Op → Type 0
Preserves Q ops = (c d : Contents) → apply_all ops c ≡ Ok d → Q c d

same_contents : (c d : Contents) → replay [] c ≡ Ok d → c ≡ d
same_contents c d h = cc

module _ (Q : Contents → Contents → Type 0) (same : (c : Contents) → Q c c) (on : (a b c : Contents) → Q a b → Q b c → Q a c) where
  -- what each transaction keeps is kept by any of them in order
  kept_by_marked : (marks : List Bool) (entries : List Entry) (c d : Contents) → All (Preserves Q) (ops_of entries) → replay (kept marks entries) c ≡ Ok d → Q c d
  kept_by_marked [] entries c d all h = subst (Q c) (same_contents c d h) (same c)
  kept_by_marked (mark ∷ marks) [] c d all h = subst (Q c) (same_contents c d h) (same c)
  kept_by_marked (true ∷ marks) (e ∷ entries) c d all h =
      let p = parted (apply_all e.ops c) (in_turn run (kept marks entries)) d h in
      on c p.0 d (All-head (Preserves Q) e.ops (ops_of entries) all c p.0 p.1) (kept_by_marked marks entries p.0 d (All-tail (Preserves Q) e.ops (ops_of entries) all) p.2)
  kept_by_marked (false ∷ marks) (e ∷ entries) c d all h = kept_by_marked marks entries c d (All-tail (Preserves Q) e.ops (ops_of entries) all) h

  pub kept_by_cut : (past : Past) → All (Preserves Q) (ops_of past.entries) → (c : Contents) → IsLeftBy past c → Q past.base c
  kept_by_cut past all c left = kept_by_marked left.marks past.entries past.base c all left.replayed

  pub kept_by_all : (all : List (List Op)) (c d : Contents) → All (Preserves Q) all → in_turn apply_all all c ≡ Ok d → Q c d
  kept_by_all [] c d each h = subst (Q c) (let is : c ≡ d = cc in is) (same c)
  kept_by_all (ops ∷ rest) c d each h =
      let p = parted (apply_all ops c) (in_turn apply_all rest) d h in
      on c p.0 d (All-head (Preserves Q) ops rest each c p.0 p.1) (kept_by_all rest p.0 d (All-tail (Preserves Q) ops rest each) p.2)
