-- Open transactions, and why what they commit keeps the order of groups.
use Rattle.std.proofs.Common.{◌≡◌, ℕ, ◌+◌, ◌≤◌, List, [], ◌∷◌, ◌++◌, sym, ◌∙◌, arith, true, false, length, get_or, length-append}
use Rattle.std.specs.Prelude.{All, AllPairs}
use Rattle.std.proofs.lemmas.Bool.{false≢true}
use Rattle.std.proofs.lemmas.List.{get_or_append_left, get_or-append-add}
use Rattle.std.proofs.lemmas.List.Elements.{All-head, All-tail, All-append, All-cons, All-push}
use Rattle.std.proofs.lemmas.List.Quantifiers.{all_pairs_push}
use Rattle.base.specs.history.Plans.{NumberRange, ranges, clash}
use Rattle.base.specs.history.History.{Entry, MayFollow, Admitted, AreAdmitted}
use Rattle.base.proofs.history.Conflicts.{clashes_turn}
use Rattle.base.proofs.common.Sieves.{AllPairs-cons, AllPairs-head, AllPairs-tail}

module _ {X : Type 0} where
  All-before : (P : X → Type 0) (xs ys : List X) → All P (xs ++ ys) → All P xs
  All-before P xs ys all k d l = rw (get_or_append_left xs ys d k l) at (all k d (rw length-append (omega arith)))

  All-after : (P : X → Type 0) (xs ys : List X) → All P (xs ++ ys) → All P ys
  All-after P xs ys all k d l = rw (get_or-append-add xs ys k d) at (all (length xs + k) d (rw length-append (omega arith)))

  All-without : (P : X → Type 0) (xs ys : List X) (x : X) → All P (xs ++ x ∷ ys) → All P (xs ++ ys)
  All-without P xs ys x all = All-append P xs ys (All-before P xs (x ∷ ys) all) (All-tail P x ys (All-after P xs (x ∷ ys) all))

  AllPairs-without : (R : X → X → Type 0) (xs ys : List X) (x : X) → AllPairs R (xs ++ x ∷ ys) → AllPairs R (xs ++ ys)
  AllPairs-without R [] ys x pairs = AllPairs-tail R x ys pairs
  AllPairs-without R (z ∷ xs) ys x pairs = AllPairs-cons R z (xs ++ ys) (All-without (R z) xs ys x (AllPairs-head R z (xs ++ x ∷ ys) pairs))
      (AllPairs-without R xs ys x (AllPairs-tail R z (xs ++ x ∷ ys) pairs))

  -- the others are apart from one of them, by a relation that can be turned
  AllPairs-others : (R : X → X → Type 0) → ((x y : X) → R x y → R y x) → (xs ys : List X) (x : X) → AllPairs R (xs ++ x ∷ ys) → All (R x) (xs ++ ys)
  AllPairs-others R turn [] ys x pairs = AllPairs-head R x ys pairs
  AllPairs-others R turn (z ∷ xs) ys x pairs =
      All-cons (R x) z (xs ++ ys) (turn z x (All-head (R z) x ys (All-after (R z) xs (x ∷ ys) (AllPairs-head R z (xs ++ x ∷ ys) pairs))))
      (AllPairs-others R turn xs ys x (AllPairs-tail R z (xs ++ x ∷ ys) pairs))

pub begins_admit : (entries : List Entry) (filling : ℕ) (admitted : List Admitted) (touches : List NumberRange) → AreAdmitted entries filling admitted
    → All (λ (a : Admitted). clash a.touches touches ≡ false) admitted → AreAdmitted entries filling (admitted ++ record { group = filling; touches = touches } ∷ [])
begins_admit entries filling admitted touches are free =
    let new : Admitted = record { group = filling; touches = touches } in
    record {
      committed = are.committed;
      below = All-push (λ (a : Admitted). a.group ≤ filling) admitted new are.below (omega arith);
      may_follow = All-push (λ (a : Admitted). MayFollow entries a.group a.touches) admitted new are.may_follow (λ k d l c. are.committed k d l);
      apart = all_pairs_push (λ (a b : Admitted). clash a.touches b.touches ≡ false) admitted new are.apart free;
    }

pub commits_follow : (entries : List Entry) (filling : ℕ) (before after : List Admitted) (a : Admitted) (next : Entry) → AreAdmitted entries filling (before ++ a ∷ after)
    → next.group ≡ a.group → ranges next.ops ≡ a.touches → MayFollow entries next.group (ranges next.ops) × AreAdmitted (entries ++ next ∷ []) filling (before ++ after)
commits_follow entries filling before after a next are same_group same_touches =
    let follows = All-head (λ (a : Admitted). MayFollow entries a.group a.touches) a after (All-after (λ (a : Admitted). MayFollow entries a.group a.touches) before (a ∷ after) are.may_follow) in
    let below : a.group ≤ filling = All-head (λ (a : Admitted). a.group ≤ filling) a after (All-after (λ (a : Admitted). a.group ≤ filling) before (a ∷ after) are.below) in
    let others = AllPairs-others (λ (a b : Admitted). clash a.touches b.touches ≡ false) (λ x y e. clashes_turn y.touches x.touches ∙ e) before after a are.apart in
    let still = All-without (λ (a : Admitted). MayFollow entries a.group a.touches) before after a are.may_follow in (
      rw (same_group, same_touches) follows,
      record {
        committed = All-push (λ (e : Entry). e.group ≤ filling) entries next are.committed (omega arith);
        below = All-without (λ (a : Admitted). a.group ≤ filling) before after a are.below;
        may_follow = λ k d l. All-push (λ (e : Entry). clash (ranges e.ops) (get_or (before ++ after) k d).touches ≡ true → e.group ≤ (get_or (before ++ after) k d).group) entries next (still k d l)
            (λ c. absurd (false≢true (sym (others k d l) ∙ rw (← same_touches) c)));
        apart = AllPairs-without (λ (a b : Admitted). clash a.touches b.touches ≡ false) before after a are.apart;
      },
    )

pub aborts_leave : (entries : List Entry) (filling : ℕ) (before after : List Admitted) (a : Admitted) → AreAdmitted entries filling (before ++ a ∷ after) → AreAdmitted entries filling (before ++ after)
aborts_leave entries filling before after a are = record {
  committed = are.committed;
  below = All-without (λ (a : Admitted). a.group ≤ filling) before after a are.below;
  may_follow = All-without (λ (a : Admitted). MayFollow entries a.group a.touches) before after a are.may_follow;
  apart = AllPairs-without (λ (a b : Admitted). clash a.touches b.touches ≡ false) before after a are.apart;
}

pub closes_leave : (entries : List Entry) (filling : ℕ) (admitted : List Admitted) → AreAdmitted entries filling admitted → AreAdmitted entries (filling + 1) admitted
closes_leave entries filling admitted are = record {
  committed = λ k d l. let h = are.committed k d l in omega arith;
  below = λ k d l. let h = are.below k d l in omega arith;
  may_follow = are.may_follow;
  apart = are.apart;
}
