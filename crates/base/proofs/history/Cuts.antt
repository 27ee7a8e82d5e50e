-- Cuts of a history, and its groups.
use Rattle.std.proofs.Common.{◌≡◌, Result, Err, ◌++◌, ◌↔◌, ◌-◌, length-append, ℕ, zero, suc, ◌+◌, ◌<◌, ◌≤◌, List, [], ◌∷◌, Ok, refl, ap, sym, ◌∙◌, arith, Bool, true, false, cond, length, get_or, take, add-one, ◌⊎◌, inl, inr}
use Rattle.std.specs.Prelude.{not, ◌&&◌, ◌==◌, map, All, nat_le, nat_lt}
use Rattle.std.proofs.lemmas.Bool.{leb-true, le-leb, lt-leb, lt-ltb, le-ltb, eq-eqb, ne_eqb, false_from_ne_true, false≢true, cases_lt, cases_order}
use Rattle.std.proofs.lemmas.List.{get_or_append_left, get_or-append_right, get_or-map, length-map}
use Rattle.std.proofs.lemmas.List.Elements.{All-head, All-tail, All-push, filter_agree}
use Rattle.std.proofs.lemmas.List.Quantifiers.{all_pairs_push}
use Rattle.base.specs.declared.error.PoolError.{PoolError}
use Rattle.base.specs.history.Sequences.{and_then, in_turn, Commute}
use Rattle.base.specs.history.Contents.{Contents}
use Rattle.base.specs.history.Plans.{ranges}
use Rattle.base.specs.history.History.{HasAcknowledged, IsDurable, IsHistory, MayFollow, Entry, IsWithin, conflicts, apply_all, run, replay, kept, IsCut, IsInGroupOrder, entries_up_to, entries_above, entries_in, group_by_group, left_marks, AreRising, IsFrontMarked}
use Rattle.base.proofs.common.Sequences.{joined, Passes, sifted, in_turn-append}
use Rattle.base.proofs.history.Conflicts.{transactions_commute}
use Rattle.base.proofs.common.Sieves.{All-kept, All-of_kept, AllPairs-kept, kept-map, kept_others, filter-filter, filter_all, filter_nothing}

cut_tail : (mark : Bool) (marks : List Bool) (e : Entry) (es : List Entry) → IsCut (mark ∷ marks) (e ∷ es) → IsCut marks es
cut_tail mark marks e es cut = record {
  each = let s : suc (length marks) ≡ suc (length es) = cut.each in omega arith;
  closed = λ i j d l m. cut.closed (suc i) (suc j) d (omega arith) (omega arith);
}

passes : (marks : List Bool) (es : List Entry) → All IsWithin es → IsCut marks es → Passes run marks es
passes [] [] within cut = tt
passes [] (e ∷ es) within cut = absurd (let s : 0 ≡ suc (length es) = cut.each in omega arith)
passes (mark ∷ marks) [] within cut = absurd (let s : suc (length marks) ≡ 0 = cut.each in omega arith)
passes (true ∷ marks) (e ∷ es) within cut = passes marks es (All-tail IsWithin e es within) (cut_tail true marks e es cut)
passes (false ∷ marks) (e ∷ es) within cut = (
  All-kept (λ f. Commute (run e) (run f)) marks es (λ j d l m.
      transactions_commute e (get_or es j d) (All-head IsWithin e es within) (All-tail IsWithin e es within j d l)
      (false_from_ne_true (conflicts e (get_or es j d)) (λ c. false≢true (cut.closed zero (suc j) d (omega arith) (omega arith) c m)))),
  passes marks es (All-tail IsWithin e es within) (cut_tail false marks e es cut),
)

pub cuts_replay : (marks : List Bool) (entries : List Entry) (base now : Contents) → All IsWithin entries → IsCut marks entries → replay entries base ≡ Ok now
    → (cut : Contents) × (replay (kept marks entries) base ≡ Ok cut) × (replay (kept (map not marks) entries) cut ≡ Ok now)
cuts_replay marks entries base now within cut h = sifted run marks entries base now (passes marks entries within cut) h

pub cuts_are_histories : (marks : List Bool) (entries : List Entry) (base now : Contents) → IsHistory entries base now → IsCut marks entries
    → (cut : Contents) × IsHistory (kept marks entries) base cut
cuts_are_histories marks entries base now h cut =
    let c = cuts_replay marks entries base now h.within cut h.replays in (
      c.0,
      record {
        within = All-of_kept IsWithin marks entries h.within;
        order = AllPairs-kept (λ e f. conflicts e f ≡ true → e.group ≤ f.group) marks entries h.order;
        replays = c.1;
      },
    )

pub histories_grow : (entries : List Entry) (next : Entry) (base now later : Contents) → IsHistory entries base now → IsWithin next → MayFollow entries next.group (ranges next.ops) → run next now ≡ Ok later
    → IsHistory (entries ++ next ∷ []) base later
histories_grow entries next base now later h within may_follow runs = record {
  within = All-push IsWithin entries next h.within within;
  order = all_pairs_push (λ e f. conflicts e f ≡ true → e.group ≤ f.group) entries next h.order may_follow;
  replays = in_turn-append run entries (next ∷ []) base now later h.replays (joined (run next now) (replay []) later later runs refl);
}

-- the groups up to one
pub up_to_is_cut : (entries : List Entry) (group : ℕ) → IsInGroupOrder entries → IsCut (map (λ (e : Entry). nat_le e.group group) entries) entries
up_to_is_cut entries group order = record {
  each = length-map entries (λ (e : Entry). nat_le e.group group);
  closed = λ i j d l m c marked.
      let at : (k : ℕ) → k < length entries → get_or (map (λ (e : Entry). nat_le e.group group) entries) k false ≡ nat_le (get_or entries k d).group group
      = λ k in'. get_or-map (λ (e : Entry). nat_le e.group group) entries k d false in' in
      let later : (get_or entries j d).group ≤ group = leb-true _ _ (sym (at j m) ∙ marked) in
      let earlier : (get_or entries i d).group ≤ (get_or entries j d).group = order i j d l m c in
      at i (omega arith) ∙ le-leb _ _ (omega arith);
}

pub groups_are_cuts : (entries : List Entry) (group : ℕ) → IsInGroupOrder entries
    → IsCut (map (λ (e : Entry). nat_le e.group group) entries) entries × (kept (map (λ (e : Entry). nat_le e.group group) entries) entries ≡ entries_up_to group entries)
groups_are_cuts entries group order = (up_to_is_cut entries group order, kept-map (λ (e : Entry). nat_le e.group group) entries)

higher : (g s : ℕ) → not (nat_le g s) ≡ nat_lt s g
higher g s = go (cases_lt s g)
  where
    go : (s < g) ⊎ (g ≤ s) → not (nat_le g s) ≡ nat_lt s g
    go (inl l) = ap not (lt-leb g s l) ∙ sym (lt-ltb s g l)
    go (inr h) = ap not (le-leb g s h) ∙ sym (le-ltb s g h)

-- the groups up to one first, and then the higher ones
pub divided : (entries : List Entry) (group : ℕ) (base now : Contents) → All IsWithin entries → IsInGroupOrder entries → replay entries base ≡ Ok now
    → (tree : Contents) × (replay (entries_up_to group entries) base ≡ Ok tree) × (replay (entries_above group entries) tree ≡ Ok now)
divided entries group base now within order h =
    let c = cuts_replay (map (λ (e : Entry). nat_le e.group group) entries) entries base now within (up_to_is_cut entries group order) h in
    let rest : kept (map not (map (λ (e : Entry). nat_le e.group group) entries)) entries ≡ entries_above group entries
    = kept_others (λ (e : Entry). nat_le e.group group) entries ∙ filter_agree (λ (e : Entry). not (nat_le e.group group)) (λ (e : Entry). nat_lt group e.group) (λ e. higher e.group group) entries in
    (c.0, ap (λ es. replay es base) (sym (kept-map (λ (e : Entry). nat_le e.group group) entries)) ∙ c.1, ap (λ es. replay es c.0) (sym rest) ∙ c.2)

up_to_within : (entries : List Entry) (group : ℕ) → All IsWithin entries → All IsWithin (entries_up_to group entries)
up_to_within entries group within = rw (← kept-map (λ (e : Entry). nat_le e.group group) entries) (All-of_kept IsWithin (map (λ (e : Entry). nat_le e.group group) entries) entries within)

up_to_order : (entries : List Entry) (group : ℕ) → IsInGroupOrder entries → IsInGroupOrder (entries_up_to group entries)
up_to_order entries group order = rw (← kept-map (λ (e : Entry). nat_le e.group group) entries)
    (AllPairs-kept (λ e f. conflicts e f ≡ true → e.group ≤ f.group) (map (λ (e : Entry). nat_le e.group group) entries) entries order)

low_low : (g s : ℕ) → nat_le g s ≡ (nat_le g s && nat_le g (suc s))
low_low g s = go (cases_lt s g)
  where
    go : (s < g) ⊎ (g ≤ s) → nat_le g s ≡ (nat_le g s && nat_le g (suc s))
    go (inl l) = rw lt-leb refl
    go (inr h) = rw (le-leb g s h) (sym (le-leb g (suc s) (omega arith)))

just_above : (g s : ℕ) → (g == suc s) ≡ (nat_lt s g && nat_le g (suc s))
just_above g s = go (cases_order g (suc s))
  where
    go : (g ≡ suc s) ⊎ ((g < suc s) ⊎ (suc s < g)) → (g == suc s) ≡ (nat_lt s g && nat_le g (suc s))
    go (inl e) = eq-eqb g (suc s) e ∙ sym (rw (lt-ltb s g (omega arith)) (le-leb g (suc s) (omega arith)))
    go (inr (inl l)) = ne_eqb g (suc s) (omega arith) ∙ sym (rw (le-ltb s g (omega arith)) refl)
    go (inr (inr h)) = ne_eqb g (suc s) (omega arith) ∙ sym (rw (lt-ltb s g (omega arith)) (lt-leb g (suc s) h))

-- one group more
next_group : (entries : List Entry) (synced : ℕ) (base later : Contents) → All IsWithin entries → IsInGroupOrder entries → replay (entries_up_to (suc synced) entries) base ≡ Ok later
    → (tree : Contents) × (replay (entries_up_to synced entries) base ≡ Ok tree) × (replay (entries_in (suc synced) entries) tree ≡ Ok later)
next_group entries synced base later within order h =
    let c = divided (entries_up_to (suc synced) entries) synced base later (up_to_within entries (suc synced) within) (up_to_order entries (suc synced) order) h in
    let first : entries_up_to synced (entries_up_to (suc synced) entries) ≡ entries_up_to synced entries
    = filter-filter (λ (e : Entry). nat_le e.group synced) (λ (e : Entry). nat_le e.group (suc synced)) (λ (e : Entry). nat_le e.group synced) (λ e. low_low e.group synced) entries in
    let second : entries_above synced (entries_up_to (suc synced) entries) ≡ entries_in (suc synced) entries
    = filter-filter (λ (e : Entry). nat_lt synced e.group) (λ (e : Entry). nat_le e.group (suc synced)) (λ (e : Entry). e.group == suc synced) (λ e. just_above e.group synced) entries in
    (c.0, ap (λ es. replay es base) (sym first) ∙ c.1, ap (λ es. replay es c.0) (sym second) ∙ c.2)

in_groups : (entries : List Entry) (synced count : ℕ) (base now : Contents) → All IsWithin entries → IsInGroupOrder entries → replay entries base ≡ Ok now
    → (tree later : Contents) × (replay (entries_up_to synced entries) base ≡ Ok tree) × (replay (entries_up_to (synced + count) entries) base ≡ Ok later)
    × (replay (group_by_group (suc synced) count entries) tree ≡ Ok later)
in_groups entries synced zero base now within order h =
    let c = divided entries synced base now within order h in
    let e : synced + 0 ≡ synced = omega arith in
    (c.0, c.0, c.1, rw e c.1, refl)
in_groups entries synced (suc count) base now within order h =
    let r = in_groups entries (suc synced) count base now within order h in
    let c = next_group entries synced base r.0 within order r.2 in
    let e : synced + suc count ≡ suc synced + count = omega arith in
    (c.0, r.1, c.1, rw e r.3, in_turn-append run (entries_in (suc synced) entries) (group_by_group (suc (suc synced)) count entries) c.0 r.0 r.1 c.2 r.4)

pub groups_replay : (entries : List Entry) (synced count : ℕ) (base now : Contents) → IsHistory entries base now
    → (tree later : Contents) × (replay (entries_up_to synced entries) base ≡ Ok tree) × (replay (entries_up_to (synced + count) entries) base ≡ Ok later)
    × (replay (group_by_group (synced + 1) count entries) tree ≡ Ok later)
groups_replay entries synced count base now h = rw (add-one synced) (in_groups entries synced count base now h.within h.order h.replays)

pub trees_follow : (entries : List Entry) (synced : ℕ) (base now tree : Contents) → IsHistory entries base now → replay (entries_up_to synced entries) base ≡ Ok tree
    → (next : Contents) × (replay (entries_in (synced + 1) entries) tree ≡ Ok next) × (replay (entries_up_to (synced + 1) entries) base ≡ Ok next)
trees_follow entries synced base now tree h is =
    let d = divided entries (suc synced) base now h.within h.order h.replays in
    let c = next_group entries synced base d.0 h.within h.order d.1 in
    let same : c.0 ≡ tree = cc (c.1, is) in
    rw (add-one synced) (d.0, ap (λ t. replay (entries_in (suc synced) entries) t) (sym same) ∙ c.2, d.1)

pub groups_give_contents : (entries : List Entry) (synced count : ℕ) (base now : Contents) → IsHistory entries base now → All (λ (e : Entry). e.group ≤ synced + count) entries
    → (tree : Contents) × (replay (entries_up_to synced entries) base ≡ Ok tree) × (replay (group_by_group (synced + 1) count entries) tree ≡ Ok now)
groups_give_contents entries synced count base now h top =
    let r = groups_replay entries synced count base now h in
    let all : entries_up_to (synced + count) entries ≡ entries = filter_all (λ (e : Entry). nat_le e.group (synced + count)) entries (λ k d l. le-leb _ _ (top k d l)) in
    (r.0, r.2, r.4 ∙ sym r.3 ∙ ap (λ es. replay es base) all ∙ h.replays)

-- the marks that a crash leaves
length-left_marks : (synced logged : ℕ) (es : List Entry) → length (left_marks synced logged es) ≡ length es
length-left_marks synced zero es = length-map es (λ (e : Entry). nat_le e.group synced)
length-left_marks synced (suc logged) [] = refl
length-left_marks synced (suc logged) (e ∷ es) = ap suc (length-left_marks synced logged es)

left_from : (synced logged : ℕ) (es : List Entry) (j : ℕ) (d : Entry) → j < length es → get_or (left_marks synced logged es) j false ≡ true → (j < logged) ⊎ ((get_or es j d).group ≤ synced)
left_from synced zero es j d l m = inr (leb-true _ _ (sym (get_or-map (λ (e : Entry). nat_le e.group synced) es j d false l) ∙ m))
left_from synced (suc logged) [] j d l m = absurd (omega arith)
left_from synced (suc logged) (e ∷ es) zero d l m = inl (omega arith)
left_from synced (suc logged) (e ∷ es) (suc j) d l m = go (left_from synced logged es j d (omega arith) m)
  where
    go : (j < logged) ⊎ ((get_or es j d).group ≤ synced) → (suc j < suc logged) ⊎ ((get_or es j d).group ≤ synced)
    go (inl k) = inl (omega arith)
    go (inr k) = inr k

left_to : (synced logged : ℕ) (es : List Entry) (j : ℕ) (d : Entry) → j < length es → (j < logged) ⊎ ((get_or es j d).group ≤ synced) → get_or (left_marks synced logged es) j false ≡ true
left_to synced zero es j d l (inl k) = absurd (omega arith)
left_to synced zero es j d l (inr k) = get_or-map (λ (e : Entry). nat_le e.group synced) es j d false l ∙ le-leb _ _ k
left_to synced (suc logged) [] j d l m = absurd (omega arith)
left_to synced (suc logged) (e ∷ es) zero d l m = refl
left_to synced (suc logged) (e ∷ es) (suc j) d l (inl k) = left_to synced logged es j d (omega arith) (inl (omega arith))
left_to synced (suc logged) (e ∷ es) (suc j) d l (inr k) = left_to synced logged es j d (omega arith) (inr k)

pub left_is_cut : (entries : List Entry) (synced logged : ℕ) → IsInGroupOrder entries → IsCut (left_marks synced logged entries) entries
left_is_cut entries synced logged order = record {
  each = length-left_marks synced logged entries;
  closed = λ i j d l m c marked. left_to synced logged entries i d (omega arith) (go i j d l (order i j d l m c) (left_from synced logged entries j d m marked));
}
  where
    go : (i j : ℕ) (d : Entry) → i < j → (get_or entries i d).group ≤ (get_or entries j d).group → (j < logged) ⊎ ((get_or entries j d).group ≤ synced) → (i < logged) ⊎ ((get_or entries i d).group ≤ synced)
    go i j d l le (inl k) = inl (omega arith)
    go i j d l le (inr k) = inr (omega arith)

-- of what is left, the tree's groups and the higher ones
low_of_left : (synced logged : ℕ) (es : List Entry) → entries_up_to synced (kept (left_marks synced logged es) es) ≡ entries_up_to synced es
low_of_left synced zero es = ap (entries_up_to synced) (kept-map (λ (e : Entry). nat_le e.group synced) es)
    ∙ filter-filter (λ (e : Entry). nat_le e.group synced) (λ (e : Entry). nat_le e.group synced) (λ (e : Entry). nat_le e.group synced) (λ e. twice (nat_le e.group synced)) es
  where
    twice : (b : Bool) → b ≡ (b && b)
    twice true = refl
    twice false = refl
low_of_left synced (suc logged) [] = refl
low_of_left synced (suc logged) (e ∷ es) = ap (λ ys. cond (nat_le e.group synced) (e ∷ ys) ys) (low_of_left synced logged es)

high_of_left : (synced logged : ℕ) (es : List Entry) → entries_above synced (kept (left_marks synced logged es) es) ≡ entries_above synced (take logged es)
high_of_left synced zero es = ap (entries_above synced) (kept-map (λ (e : Entry). nat_le e.group synced) es)
    ∙ filter-filter (λ (e : Entry). nat_lt synced e.group) (λ (e : Entry). nat_le e.group synced) (λ (e : Entry). false) (λ e. never e.group) es ∙ filter_nothing es
  where
    never : (g : ℕ) → false ≡ (nat_lt synced g && nat_le g synced)
    never g = go (cases_lt synced g)
      where
        go : (synced < g) ⊎ (g ≤ synced) → false ≡ (nat_lt synced g && nat_le g synced)
        go (inl l) = sym (rw (lt-ltb synced g l) (lt-leb g synced l))
        go (inr h) = sym (rw (le-ltb synced g h) refl)
high_of_left synced (suc logged) [] = refl
high_of_left synced (suc logged) (e ∷ es) = ap (λ ys. cond (nat_lt synced e.group) (e ∷ ys) ys) (high_of_left synced logged es)

pub logs_replay : (entries : List Entry) (synced logged : ℕ) (base now : Contents) → IsHistory entries base now
    → IsCut (left_marks synced logged entries) entries
    × ((tree left : Contents) × (replay (entries_up_to synced entries) base ≡ Ok tree) × (replay (entries_above synced (take logged entries)) tree ≡ Ok left)
    × (replay (kept (left_marks synced logged entries) entries) base ≡ Ok left))
logs_replay entries synced logged base now h =
    let marks = left_marks synced logged entries in
    let cut = left_is_cut entries synced logged h.order in
    let c = cuts_replay marks entries base now h.within cut h.replays in
    let t = divided (kept marks entries) synced base c.0 (All-of_kept IsWithin marks entries h.within)
    (AllPairs-kept (λ e f. conflicts e f ≡ true → e.group ≤ f.group) marks entries h.order) c.1 in
    (cut, (t.0, c.0, ap (λ es. replay es base) (sym (low_of_left synced logged entries)) ∙ t.1, ap (λ es. replay es t.0) (sym (high_of_left synced logged entries)) ∙ t.2, c.1))

pub marks_are_left : (entries : List Entry) (synced logged k : ℕ) (d : Entry) → k < length entries
    → (get_or (left_marks synced logged entries) k false ≡ true) ↔ ((k < logged) ⊎ ((get_or entries k d).group ≤ synced))
marks_are_left entries synced logged k d l = (left_from synced logged entries k d l, left_to synced logged entries k d l)

marked_within : (marks : List Bool) (j : ℕ) → get_or marks j false ≡ true → j < length marks
marked_within [] j marked = absurd (false≢true marked)
marked_within (m ∷ marks) zero marked = omega arith
marked_within (m ∷ marks) (suc j) marked = let within : j < length marks = marked_within marks j marked in omega (arith, within)

-- where groups rise, what is left is a front
left_rises : (synced logged : ℕ) (es : List Entry) → AreRising es → IsFrontMarked (left_marks synced logged es)
left_rises synced logged es rising i j l marked = left_to synced logged es i none (omega (arith, l, within)) (go (left_from synced logged es j none within marked))
  where
    none : Entry
    none = record { group = 0; tx = 0; ops = [] }

    within : j < length es
    within = let w : j < length (left_marks synced logged es) = marked_within (left_marks synced logged es) j marked in omega (arith, w, length-left_marks synced logged es)

    go : (j < logged) ⊎ ((get_or es j none).group ≤ synced) → (i < logged) ⊎ ((get_or es i none).group ≤ synced)
    go (inl k) = inl (omega (arith, k, l))
    go (inr k) = let up : (get_or es i none).group ≤ (get_or es j none).group = rising i j none l within in inr (omega (arith, k, up))

pub crashes_leave_cuts : (entries : List Entry) (acknowledged : List ℕ) (synced logged : ℕ) (base now : Contents) → IsHistory entries base now
    → All (IsDurable entries synced logged) acknowledged
    → (marks : List Bool) × (tree left : Contents) × IsCut marks entries × HasAcknowledged marks acknowledged × (replay (kept marks entries) base ≡ Ok left)
    × (replay (entries_up_to synced entries) base ≡ Ok tree) × (replay (entries_above synced (take logged entries)) tree ≡ Ok left)
    × (AreRising entries → IsFrontMarked marks)
crashes_leave_cuts entries acknowledged synced logged base now h durable =
    let r = logs_replay entries synced logged base now h in
    (left_marks synced logged entries, r.1.0, r.1.1, r.0, (λ i d l. marked (get_or acknowledged i d) (durable i d l)), r.1.4, r.1.2, r.1.3, left_rises synced logged entries)
  where
    at : (k : ℕ) (none : Entry) → (k < logged) ⊎ ((d : Entry) → (get_or entries k d).group ≤ synced) → (k < logged) ⊎ ((get_or entries k none).group ≤ synced)
    at k none (inl l) = inl l
    at k none (inr low) = inr (low none)

    marked : (k : ℕ) → IsDurable entries synced logged k → get_or (left_marks synced logged entries) k false ≡ true
    marked k is =
        let none : Entry = record { group = 0; tx = 0; ops = [] } in
        left_to synced logged entries k none is.committed (at k none is.stored)

kept_push : {X : Type 0} (marks : List Bool) (xs : List X) (x : X) → length marks ≡ length xs → kept (marks ++ false ∷ []) (xs ++ x ∷ []) ≡ kept marks xs
kept_push [] [] x e = refl
kept_push [] (y ∷ xs) x e = absurd (omega arith)
kept_push (m ∷ marks) [] x e = absurd (omega arith)
kept_push (true ∷ marks) (y ∷ xs) x e = ap (λ ys. y ∷ ys) (kept_push marks xs x (omega arith))
kept_push (false ∷ marks) (y ∷ xs) x e = kept_push marks xs x (omega arith)

unmarked_past : (k : ℕ) → get_or (false ∷ []) k false ≡ false
unmarked_past zero = refl
unmarked_past (suc k) = refl

pub cuts_stay : (marks : List Bool) (entries : List Entry) (next : Entry) → IsCut marks entries
    → IsCut (marks ++ false ∷ []) (entries ++ next ∷ []) × (kept (marks ++ false ∷ []) (entries ++ next ∷ []) ≡ kept marks entries)
cuts_stay marks entries next cut = (
  record {
    each = length-append marks (false ∷ []) ∙ ap (λ n. n + 1) cut.each ∙ sym (length-append entries (next ∷ []));
    closed = λ i j d l m c marked. stays i j d l (cases_lt j (length entries)) c marked;
  },
  kept_push marks entries next cut.each,
)
  where
    stays : (i j : ℕ) (d : Entry) → i < j → (j < length entries) ⊎ (length entries ≤ j)
        → conflicts (get_or (entries ++ next ∷ []) i d) (get_or (entries ++ next ∷ []) j d) ≡ true
        → get_or (marks ++ false ∷ []) j false ≡ true → get_or (marks ++ false ∷ []) i false ≡ true
    stays i j d l (inl k) c marked =
        let same : length marks ≡ length entries = cut.each in
        let mark = λ (n : ℕ) (h : n < length marks). get_or_append_left marks (false ∷ []) false n h in
        let entry = λ (n : ℕ) (h : n < length entries). get_or_append_left entries (next ∷ []) d n h in
        mark i (omega arith) ∙ cut.closed i j d l k (rw (← entry i (omega arith), ← entry j k) c) (sym (mark j (omega arith)) ∙ marked)
    stays i j d l (inr k) c marked =
        let past : get_or (marks ++ false ∷ []) j false ≡ false
        = get_or-append_right marks (false ∷ []) (length entries) j false cut.each k ∙ unmarked_past (j - length entries) in
        absurd (false≢true (sym past ∙ marked))

replay_ops : (es : List Entry) (c : Contents) → replay es c ≡ in_turn apply_all (map (λ (e : Entry). e.ops) es) c
replay_ops [] c = refl
replay_ops (e ∷ es) c = go (apply_all e.ops c) (replay_ops es)
  where
    go : (r : Result Contents PoolError) → ((d : Contents) → replay es d ≡ in_turn apply_all (map (λ (f : Entry). f.ops) es) d)
        → and_then r (in_turn run es) ≡ and_then r (in_turn apply_all (map (λ (f : Entry). f.ops) es))
    go (Ok d) rest = rest d
    go (Err x) rest = refl

pub ops_count : (xs ys : List Entry) (base : Contents) → map (λ (e : Entry). e.ops) xs ≡ map (λ (e : Entry). e.ops) ys → replay xs base ≡ replay ys base
ops_count xs ys base same = replay_ops xs base ∙ ap (λ os. in_turn apply_all os base) same ∙ sym (replay_ops ys base)

pub durable_stays : (entries more : List Entry) (synced logged later longer k : ℕ) → IsDurable entries synced logged k → synced ≤ later → logged ≤ longer → IsDurable (entries ++ more) later longer k
durable_stays entries more synced logged later longer k is l m = record {
  committed = rw length-append (omega arith);
  stored = go is.stored;
}
  where
    go : (k < logged) ⊎ ((d : Entry) → (get_or entries k d).group ≤ synced) → (k < longer) ⊎ ((d : Entry) → (get_or (entries ++ more) k d).group ≤ later)
    go (inl h) = inl (omega arith)
    go (inr h) = inr (λ d. rw (get_or_append_left entries more d k is.committed) (let low : (get_or entries k d).group ≤ synced = h d in omega arith))

-- entries above a group add nothing to those up to it
pub up_to_push : (group : ℕ) (entries : List Entry) (e : Entry) → group < e.group → entries_up_to group (entries ++ e ∷ []) ≡ entries_up_to group entries
up_to_push group [] e above = ap (λ (b : Bool). cond b (e ∷ []) []) (lt-leb e.group group above)
up_to_push group (x ∷ xs) e above = ap (λ (ys : List Entry). cond (nat_le x.group group) (x ∷ ys) ys) (up_to_push group xs e above)
