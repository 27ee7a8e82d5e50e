-- After the first flush of an import, a disk that its pool alone wrote is at rest on one view; what the import reads is
-- of that view, and the stage that comes first spares a config of it.
use Rattle.std.proofs.Common.{◌≡◌, ◌⊎◌, inl, inr, ⊎_elim, ℕ, zero, suc, ◌<◌, ◌≤◌, ◌↔◌, IsTrue, List, [], ◌++◌, length, take, filter, Some, None, refl, sym, ◌∙◌, ap, subst, arith}
use Rattle.std.specs.Prelude.{Contains}
use Rattle.std.specs.List.{flat_map}
use Rattle.base.specs.kept.CallStages.{FixedLabels, IsAtRestAt}
use Rattle.base.specs.kept.CrashRule.{MountsAs}
use Rattle.base.specs.kept.LogRoom.{HasImportRoom}
use Rattle.base.specs.kept.LogRule.{with_front}
use Rattle.base.specs.kept.LogSteps.{IsSpareOf}
use Rattle.base.specs.tree.Mount.{HasPool, IsUsed, Mounts}
use Rattle.base.specs.kept.Own.{AreConfigsBelowImport, IsAtRest, IsOwnWith}
use Rattle.base.specs.kept.Views.{View, IsFoundAs, IsFixed, IsView, ended_in, view_frame}
use Rattle.base.specs.declared.pointer.Pointer.{Pointer}
use Rattle.base.specs.disk.Disk.{Disk, IsTouched, Moment, Write, bytes_after, bytes_of, disk_size, handed, holds, settled}
use Rattle.base.specs.disk.Fairness.{HasFairBytes, passes_check}
use Rattle.base.specs.formats.Blocks.{IsBlock}
use Rattle.base.specs.formats.Chain.{LogPiece, addresses_of}
use Rattle.base.specs.formats.Fields.{part}
use Rattle.base.specs.formats.Geometry.{block_count, block_size, config_place}
use Rattle.base.specs.formats.Labels.{IsChosen, IsConfig, IsKeptInOdd}
use Rattle.base.specs.formats.Uberblocks.{Uberblock}
use Rattle.base.specs.history.Contents.{Contents}
use Rattle.base.specs.tree.Places.{IsInTree}
use Rattle.base.specs.tree.Places.Place.{Root}
use Rattle.base.proofs.crash.CrashRule.{EndsWithin}
use Rattle.base.proofs.crash.CutPlaces.{HasRecordsIn, fewer_fixed, records_in}
use Rattle.base.proofs.crash.CutViews.{chain_applied, cut_records}
use Rattle.base.proofs.crash.FoundViews.{chosen_at, rest_found}
use Rattle.base.proofs.crash.LogFronts.{at-take}
use Rattle.base.proofs.crash.OneMount.{mounts_agree, one-active, one-name}
use Rattle.base.proofs.disk.CheckedPlaces.{fair_config, marked}
use Rattle.base.proofs.disk.Fairness.{fair_settled}
use Rattle.base.proofs.disk.Moments.{bytes_may_be_left}
use Rattle.base.proofs.tree.PlacedTrees.{told-in_tree}
use Rattle.labels.specs.declared.stage.Stage.{Stage}
use Rattle.labels.specs.declared.stage.Stage.TheVariants.{Even, Odd}
use Rattle.import_replay.specs.Found.{HasFirstStage}
use Rattle.import_replay.specs.ImportViews.{IsReadyBehind, SparesConfig}
use Rattle.import_replay.specs.LabelSyncs.{is_even}

-- a moment with nothing unflushed is the one that a flush of it leaves
settled_now : (m : Moment) → m.unflushed ≡ [] → m ≡ settled (bytes_of m) m
settled_now m none =
    let bytes : m.flushed ≡ bytes_of m = sym (ap (λ (ws : List Write). bytes_after m.flushed ws) none) in
    let kept : m.kept ≡ filter (holds (bytes_of m)) m.unflushed ++ m.kept = sym (ap (λ (ws : List Write). filter (holds (bytes_of m)) ws ++ m.kept) none) in
    λ i. record { flushed = bytes i; unflushed = none i; kept = kept i }

-- Nothing is unflushed of a disk that a pool alone wrote, and it is at rest on this view, which mounts these contents
-- and has room for an import. So many log blocks of it have all its records and are fixed.
pub record IsRestedOwn (size created guid flushed : ℕ) (contents : Contents) (v : View) (m : Moment) : Type 0 where
  pub guid_is : v.u.guid ≡ guid
  pub mounts : MountsAs v contents
  pub room : HasImportRoom (block_count size) v
  pub none : m.unflushed ≡ []
  pub all : EndsWithin flushed v
  pub rest : IsAtRest size created flushed m v
  pub bytes : HasFairBytes size created m
  pub configs : AreConfigsBelowImport size created (handed m) v contents.name

pub rested_own : (disk : Disk) (created guid : ℕ) (contents : Contents) → disk.now.unflushed ≡ [] → IsOwnWith disk created guid contents
    → (v : View) × (flushed : ℕ) × IsRestedOwn (disk_size disk) created guid flushed contents v disk.now
rested_own disk created guid contents none own =
    let is = own.left.each (bytes_of disk.now) (bytes_may_be_left disk.now) own.left.bytes.fair in
    let sure : disk.now ≡ settled (bytes_of disk.now) disk.now = settled_now disk.now none in (
      is.v,
      is.flushed,
      subst (λ (m : Moment). IsRestedOwn (disk_size disk) created guid is.flushed contents is.v m) (sym sure)
          (record {
            guid_is = is.guid_is;
            mounts = is.applied;
            room = is.room;
            none = refl;
            all = is.all;
            rest = is.rest;
            bytes = record { size_is = refl; fair = fair_settled (passes_check (disk_size disk)) created (bytes_of disk.now) disk.now own.left.bytes.fair };
            configs = is.configs;
          }),
    )

-- one group of a config is the chosen one's
one_found : (image : List ℕ) (guid group f g : ℕ) (a b : List ℕ) → IsChosen image guid group f a → IsChosen image guid group g b → f ≡ g
one_found image guid group f g a b x y =
    let up = y.highest x.label f a x.in_range x.not_above x.stands in
    let down = x.highest y.label g b y.in_range y.not_above y.stands in
    omega (arith, up, down)

-- the stage spares each label of the other pair
even_spared : (at : FixedLabels) → (at.config ≡ 1) ⊎ (at.config ≡ 3) → SparesConfig Even at
even_spared at odd zero label there same = let is : 0 ≡ label = cc in ⊎_elim (λ one. omega (arith, is, same, one)) (λ three. omega (arith, is, same, three)) odd
even_spared at odd (suc zero) label there same = let is : 2 ≡ label = cc in ⊎_elim (λ one. omega (arith, is, same, one)) (λ three. omega (arith, is, same, three)) odd
even_spared at odd (suc (suc k)) label there same = let none : None ≡ Some label = there in cc

odd_spared : (at : FixedLabels) → (at.config ≡ 0) ⊎ (at.config ≡ 2) → SparesConfig Odd at
odd_spared at even zero label there same = let is : 1 ≡ label = cc in ⊎_elim (λ first. omega (arith, is, same, first)) (λ third. omega (arith, is, same, third)) even
odd_spared at even (suc zero) label there same = let is : 3 ≡ label = cc in ⊎_elim (λ first. omega (arith, is, same, first)) (λ third. omega (arith, is, same, third)) even
odd_spared at even (suc (suc k)) label there same = let none : None ≡ Some label = there in cc

-- What is read of the bytes is of the view.
module _ (m : Moment) (created guid flushed : ℕ) (contents : Contents) (v : View) (own : IsRestedOwn (length (bytes_of m)) created guid flushed contents v m) where
  abbrev image : List ℕ
  image = bytes_of m

  abbrev size : ℕ
  size = length image

  view : IsView size v
  view = own.rest.laid.view

  pub found : IsFoundAs image flushed v
  found = rest_found created m image (bytes_may_be_left m) own.bytes.fair flushed v own.rest

  -- the chain that is found has all records of its log
  abbrev logged : List LogPiece
  logged = found.cut.chain

  view_mounts : Mounts image v.u logged contents
  view_mounts = record {
    synced = v.synced;
    found = found.found;
    applied =
        chain_applied v.u.group logged (ended_in v.logged) v.synced (cut_records v.u.version (take found.count v.logged) found.cut ∙ own.all found.count found.least) ∙ own.mounts;
  }

  -- the front of its log that an import has to keep
  abbrev kept : (count : ℕ) × (count ≤ flushed) × HasRecordsIn v logged count
  kept = records_in image flushed v found own.all

  abbrev pub kept_count : ℕ
  kept_count = kept.0

  pub kept_rested : IsRestedOwn size created guid kept_count contents v m
  kept_rested = record {
    guid_is = own.guid_is;
    mounts = own.mounts;
    room = own.room;
    none = own.none;
    all = kept.2.all;
    rest = fewer_fixed size created flushed kept_count m v kept.1 own.rest;
    bytes = own.bytes;
    configs = own.configs;
  }

  module _ (u : Uberblock) (name : List ℕ) (pool : HasPool image u name) where
    pub found_uberblock : u ≡ v.u
    found_uberblock = one-active image u v.u pool.active found.found.pool.active

    pub found_name : v.name ≡ name
    found_name =
        sym view.name
        ∙ one-name image v.u.guid v.u.group found.found.pool.config_group pool.config_group v.synced.name name found.found.pool.chosen
        (subst (λ (w : Uberblock). IsChosen image w.guid w.group pool.config_group name) found_uberblock pool.chosen)

  -- what the image mounts is of the view
  pub found_mounts : (u : Uberblock) (chain : List LogPiece) (read : Contents) → Mounts image u chain read → (chain ≡ logged) × (read ≡ contents)
  found_mounts u chain read mounts = let agree = mounts_agree image u v.u chain logged read contents mounts view_mounts in (agree.1, agree.2)

  -- a block at an address that is not used of it is spare for the view with that front
  pub unused_spare : (u : Uberblock) (chain : List LogPiece) (address : ℕ) → u ≡ v.u → chain ≡ logged → (IsUsed image u.root chain address → ⊥) → IsSpareOf (with_front kept_count v) address
  unused_spare u chain address same whole unused = record {
    not_in_tree = λ place in_range some there.
        unused (inl (subst (λ (r : Pointer). IsInTree image r address) (view.root ∙ ap (λ (w : Uberblock). w.root) (sym same))
        (subst (λ (a : ℕ). IsInTree image (v.pointers Root) a) there (told-in_tree image (view_frame size v) v.pointers v.synced.objects own.rest.laid.firm.tree.holds place in_range some))));
    not_logged = λ i l at there.
        let (below, here) = at-take kept_count v.logged i l at in
        unused (inr (subst (λ (bs : List LogPiece). Contains (flat_map addresses_of bs) address) (sym whole) (subst (λ (a : ℕ). Contains (flat_map addresses_of logged) a) there (kept.2.in_chain i l below here))));
  }

  -- a label with the view's config has it fixed
  abbrev HasConfig : ℕ → Type 0
  HasConfig label = part image (config_place size label) block_size ≡ v.config

  fixed_config : (label : ℕ) → HasConfig label → IsFixed m (config_place size label) v.config
  fixed_config label there = record {
    settled = λ i from to touched. subst (λ (ws : List Write). IsTouched ws i) own.none touched;
    stands = ap (λ (n : ℕ). part image (config_place size label) n) view.config.block.size ∙ there;
  }

  rested_config : HasConfig own.rest.laid.firm.config.label
  rested_config =
      ap (λ (n : ℕ). part image (config_place size own.rest.laid.firm.config.label) n) (sym view.config.block.size) ∙ own.rest.laid.firm.config.fixed.stands

  config_of_label : (label : ℕ) → HasConfig label → IsConfig image label v.u.guid v.config_group v.name
  config_of_label label there = record {
    payload = view.config.payload;
    block = subst (λ (bytes : List ℕ). IsBlock bytes 1 v.u.guid v.config_group 0 view.config.payload) (sym there) view.config.block;
    fields = view.config.fields;
  }

  -- a config of the chosen group is the view's
  label_of_config : (label : ℕ) (name : List ℕ) → label < 4 → IsConfig image label v.u.guid v.config_group name → HasConfig label
  label_of_config label name below is =
      let bytes : List ℕ = part image (config_place size label) block_size in
      let some = fair_config size created (handed m) image own.bytes.fair label below is.block.agrees (marked bytes 0 is.block.kind_is) in
      ⊎_elim (λ lower. absurd (omega (arith, lower))) (λ same. same)
      (own.rest.laid.configs label v.config_group name bytes below some (record { payload = is.payload; block = is.block; fields = is.fields }) view.not_above)

  abbrev labels_at : (label : ℕ) → label < 4 → FixedLabels
  labels_at label below = record { config = label; config_below = below; slot = own.rest.slot.label; slot_below = own.rest.slot.in_range }

  rest_at : (label : ℕ) (below : label < 4) → HasConfig label → IsAtRestAt size created kept_count (labels_at label below) v m
  rest_at label below there = record { rest = kept_rested.rest; config = fixed_config label there; slot = own.rest.slot.fixed }

  abbrev pub SparedAt : Stage → Type 0
  SparedAt first = (at : FixedLabels) × SparesConfig first at × IsReadyBehind size created kept_count at v contents.name m

  ready_at : (first : Stage) (label : ℕ) (below : label < 4) → SparesConfig first (labels_at label below) → HasConfig label → SparedAt first
  ready_at first label below spares there =
      (labels_at label below, spares, record { rest = rest_at label below there; bytes = own.bytes; configs = own.configs })

  pub spared_at : (u : Uberblock) (name : List ℕ) (first : Stage) → u ≡ v.u → v.name ≡ name → HasFirstStage image u.guid u.group name (is_even first) → SparedAt first
  spared_at u name first same named stage = by_stage first stage.even
    where
      chosen : IsChosen image v.u.guid v.u.group stage.found name
      chosen = subst (λ (w : Uberblock). IsChosen image w.guid w.group stage.found name) same stage.chosen

      group_is : stage.found ≡ v.config_group
      group_is = one_found image v.u.guid v.u.group stage.found v.config_group name v.name chosen
          (chosen_at created m image (bytes_may_be_left m) own.bytes.fair v view own.rest.laid.firm.config own.rest.laid.configs)

      in_label : (label : ℕ) → IsConfig image label u.guid stage.found name → IsConfig image label v.u.guid v.config_group name
      in_label label is = subst (λ (g : ℕ). IsConfig image label v.u.guid g name) group_is (subst (λ (w : Uberblock). IsConfig image label w.guid stage.found name) same is)

      of_label : (label : ℕ) → HasConfig label → IsConfig image label u.guid stage.found name
      of_label label there =
          subst (λ (w : Uberblock). IsConfig image label w.guid stage.found name) (sym same)
          (subst (λ (g : ℕ). IsConfig image label v.u.guid g name) (sym group_is) (subst (λ (n : List ℕ). IsConfig image label v.u.guid v.config_group n) named (config_of_label label there)))

      by_label : (IsKeptInOdd image u.guid stage.found name → ⊥) → (label : ℕ) → label < 4 → HasConfig label → SparedAt Odd
      by_label not_odd zero below there = ready_at Odd 0 below (odd_spared (labels_at 0 below) (inl refl)) there
      by_label not_odd (suc zero) below there = absurd (not_odd (inl (of_label 1 there)))
      by_label not_odd (suc (suc zero)) below there = ready_at Odd 2 below (odd_spared (labels_at 2 below) (inr refl)) there
      by_label not_odd (suc (suc (suc zero))) below there = absurd (not_odd (inr (of_label 3 there)))
      by_label not_odd (suc (suc (suc (suc k)))) below there = absurd (omega (arith, below))

      by_stage : (s : Stage) → (IsTrue (is_even s) ↔ IsKeptInOdd image u.guid stage.found name) → SparedAt s
      by_stage Even told = ⊎_elim
          (λ is. ready_at Even 1 (omega arith) (even_spared (labels_at 1 (omega arith)) (inl refl)) (label_of_config 1 name (omega arith) (in_label 1 is)))
          (λ is. ready_at Even 3 (omega arith) (even_spared (labels_at 3 (omega arith)) (inr refl)) (label_of_config 3 name (omega arith) (in_label 3 is)))
          (told.0 refl)
      by_stage Odd told = by_label (λ odd. let no_way : IsTrue (is_even Odd) = told.1 odd in cc) own.rest.laid.firm.config.label own.rest.laid.firm.config.in_range rested_config
