-- What a sync has written, from call to call.
use Rattle.std.proofs.Common.{◌≡◌, ◌⊎◌, inl, inr, ℕ, ◌+◌, ◌<◌, ◌≤◌, List, length, get_or, Option, Some, None, sym, ◌∙◌, ap, subst, arith}
use Rattle.std.specs.Prelude.{slice_get}
use Rattle.std.proofs.lemmas.Bool.{cases_lt}
use Rattle.base.specs.formats.Fields.{part}
use Rattle.base.specs.disk.Disk.{put, IsInRange}
use Rattle.base.proofs.disk.Put.{Apart, length-put, get_or-put_other, part-put_same, part-put_apart, outside_range}
use Rattle.sync.specs.Calls.{Target}
use Rattle.sync.specs.Made.{AreWritten, IsTarget}

-- the target of the next call
abbrev PartedFrom : List (Option Target) → ℕ → Target → Type 0
PartedFrom targets done t = (k : ℕ) (u : Target) → k < done → IsTarget targets k u → (u ≡ t) ⊎ Apart t.place t.size u.place u.size

-- one target is written
pub written_more : (base image : List ℕ) (targets : List (Option Target)) (done : ℕ) (t : Target) → AreWritten base targets done image → IsTarget targets done t → length t.content ≡ t.size
    → t.place + t.size ≤ length image → PartedFrom targets done t → AreWritten base targets (done + 1) (put t.place t.content image)
written_more base image targets done t so_far at long within parted = record {
  size = length-put t.place t.content image fits ∙ so_far.size;
  each = each;
  others = others;
}
  where
    fits : t.place + length t.content ≤ length image
    fits = omega (arith, long, within)

    stands : part (put t.place t.content image) t.place t.size ≡ t.content
    stands = ap (λ (n : ℕ). part (put t.place t.content image) t.place n) (sym long) ∙ part-put_same t.place t.content image fits

    each : (k : ℕ) (u : Target) → k < done + 1 → IsTarget targets k u → part (put t.place t.content image) u.place u.size ≡ u.content
    each k u below at_u = elim (cases_lt k done) [
      | inl before ↦ elim (parted k u before at_u) [
        | inl same ↦ subst (λ (v : Target). part (put t.place t.content image) v.place v.size ≡ v.content) (sym same) stands
        | inr apart ↦ part-put_apart t.place t.content image u.place u.size fits (subst (λ (n : ℕ). Apart t.place n u.place u.size) (sym long) apart) ∙ so_far.each k u before at_u
      ]
      | inr behind ↦
          let here : k ≡ done = omega (arith, below, behind) in
          let found : slice_get targets done ≡ Some (Some u) = ap (λ (i : ℕ). slice_get targets i) (sym here) ∙ at_u in
          let same : t ≡ u = cc in
          subst (λ (v : Target). part (put t.place t.content image) v.place v.size ≡ v.content) same stands
    ]

    others : (i : ℕ) → ((k : ℕ) (u : Target) → k < done + 1 → IsTarget targets k u → IsInRange u.place u.size i → ⊥) → get_or (put t.place t.content image) i 0 ≡ get_or base i 0
    others i out =
        let apart : IsInRange t.place (length t.content) i → ⊥ = λ here. out done t (omega arith) at (here.0, omega (arith, here.1, long)) in
        get_or-put_other t.place t.content image i fits (outside_range t.place (length t.content) i apart) ∙ so_far.others i (λ k u below at_u. out k u (omega (arith, below)) at_u)

-- nothing is written
pub nothing_more : (base image : List ℕ) (targets : List (Option Target)) (done : ℕ) → AreWritten base targets done image → slice_get targets done ≡ Some None → AreWritten base targets (done + 1) image
nothing_more base image targets done so_far at = record {
  size = so_far.size;
  each = λ k u below at_u. so_far.each k u (not_here k u below at_u) at_u;
  others = λ i out. so_far.others i (λ k u below at_u. out k u (omega (arith, below)) at_u);
}
  where
    not_here : (k : ℕ) (u : Target) → k < done + 1 → IsTarget targets k u → k < done
    not_here k u below at_u = elim (cases_lt k done) [
      | inl before ↦ before
      | inr behind ↦
          let here : k ≡ done = omega (arith, below, behind) in
          let found : slice_get targets done ≡ Some (Some u) = ap (λ (i : ℕ). slice_get targets i) (sym here) ∙ at_u in
          let no_way : None ≡ Some u = cc in
          absurd (let never : None ≡ Some u = no_way in cc)
    ]
