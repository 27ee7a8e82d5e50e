use Rattle.std.proofs.Common.{rules, ◌≡◌, ◌*◌, ◌+◌, ◌≤◌, ◌⊎◌, ◌∙◌, inl, inr, ℕ, List, length, refl, ap, arith, subst, sym}
use Rattle.extents.specs.Objects.{HidesBelow}
use Rattle.object_views.specs.declared.path_blocks.PathBlocks.{PathBlocks}
use Rattle.object_views.specs.ObjectViews.{AreCheckedBytes, AreStoredBytes, AreViewBlocks, OnStored, patch_seen}
use Rattle.object_views.proofs.SeenBytes.{hidden_checked, laid_seen, read_checked}
use Rattle.object_views.proofs.view.ObjectView.read_part.Goals as goal
use Rattle.object_views.proofs.view.ObjectView.read_part.Goals.{then-not-hides+in_ok-read_stored, else-not-hides}

pub returns-clause-bytes : goal.returns-clause-bytes
returns-clause-bytes g c = λ keeps image root shows is.
    let v = c.args.self.now in
    let offset : ℕ = 4032 * c.args.index + c.args.start in
    let given : HidesBelow (patch_seen v) offset (length c.if-not-hides.into) ⊎ AreStoredBytes image root v offset c.if-not-hides.into =
    elim c.if-not-hides.branch [
      | then-not-hides+in_ok-read_stored w ↦ inr (subst (λ (l : List ℕ). AreStoredBytes image root v offset l) (sym w.into-is) (w.in_ok-read_stored.ensures.bytes keeps image root shows is))
      | else-not-hides w ↦ inl (subst (λ (l : List ℕ). HidesBelow (patch_seen v) offset (length l)) (sym w.into-is) (c.hides.ensures (search (rules, arith))))
    ] in
    laid_seen image root v c.requires.number is c.requires.there offset c.if-not-hides.into c.lay_on.new.into c.lay_on.ensures.bytes given

pub returns-clause-checked : goal.returns-clause-checked
returns-clause-checked g c = λ keeps image root shows is.
    let v = c.args.self.now in
    let offset : ℕ = 4032 * c.args.index + c.args.start in
    let count : ℕ = length c.lay_on.new.into in
    let within : c.args.start + length c.lay_on.new.into ≤ 4032 = search (rules, arith) in
    elim c.if-not-hides.branch as (λ _. AreCheckedBytes image root v offset count) [
      | then-not-hides+in_ok-read_stored w ↦
          read_checked image root v c.requires.number is c.requires.there offset c.args.index c.args.start count refl within (w.in_ok-read_stored.ensures.sound keeps image root shows is)
      | else-not-hides w ↦
          let long : length c.args.into.now ≡ count = ap (λ (l : List ℕ). length l) (sym w.into-is) ∙ sym c.lay_on.ensures.size in
          subst (λ (k : ℕ). AreCheckedBytes image root v offset k) long (hidden_checked image root v c.requires.number is c.requires.there offset (length c.args.into.now) (c.hides.ensures (search (rules, arith))))
    ]

pub returns-clause-blocks : goal.returns-clause-blocks
returns-clause-blocks g c =
    let v = c.args.self.now in
    let keep = g.D.SectorDevice.keeps_model in
    elim c.if-not-hides.branch [
      | then-not-hides+in_ok-read_stored w ↦ subst (λ (b : PathBlocks). OnStored keep (g.D.SectorDevice.disk c.args.device.now) v (AreViewBlocks v b)) (sym w.blocks-is) w.in_ok-read_stored.ensures.blocks
      | else-not-hides w ↦ subst (λ (b : PathBlocks). OnStored keep (g.D.SectorDevice.disk c.args.device.now) v (AreViewBlocks v b)) (sym w.blocks-is) c.requires.blocks
    ]
