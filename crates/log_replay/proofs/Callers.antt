-- What replays of two small chains come to.
use Rattle.std.proofs.Common.{◌≡◌, ℕ, ◌⊎◌, inl, inr, [], ◌∷◌, Some, None, Ok, refl, ap, sym, ◌∙◌, length}
use Rattle.std.specs.Prelude.{Result, option_map, unwrap_or}
use Rattle.std.specs.FinMap as finite
use Rattle.base.specs.declared.error.PoolError.{PoolError}
use Rattle.base.specs.declared.error.PoolError.TheVariants.{Damaged, Exists, NoMemory}
use Rattle.base.specs.tree.Mount.{apply_records, records_above}
use Rattle.base.specs.history.Contents.{Contents, with_object}
use Rattle.base.proofs.history.Objects.{get-stored_same}
use Rattle.extents.specs.Patches.{laid_over}
use Rattle.extents.specs.Synced.{patched_contents}
use Rattle.extents.specs.Tables.{name_of, patches_of}
use Rattle.tree_blocks.specs.Sources.{object_length}
use Rattle.extents.specs.declared.extents.Extents.{Extents}
use Rattle.log_replay.specs.declared.replaying.Replayed.{Replayed}
use Rattle.log_replay.specs.AddedRecords.{AreChangesOf, with_changes}
use Rattle.log_replay.specs.Replays.{IsRecordRefused, IsReplay, IsReplayRefusal}
use Rattle.log_replay.specs.SmallChains.{creation_chain, growing_chain, naming_chain}
use Rattle.log_replay.proofs.RefusedRecords.{none_reached, refusals_agree}

Ok-same : {A : Type 0} (a b : A) → ◌≡◌ {A = Result A PoolError} (Ok a) (Ok b) → a ≡ b
Ok-same a b e = cc

module _ (c : Contents) where
  -- an object is created if it is absent
  module _ (absent : finite.get c.objects 7 ≡ None) where
    created : apply_records (records_above 9 (creation_chain 10)) c ≡ Ok (with_object c 7 (Some []))
    created = rw absent refl

    pub object_created : (r : Replayed) → IsReplay 9 c (creation_chain 10) r → finite.get (laid_over (patches_of r.extents) c.objects) 7 ≡ Some []
    object_created r is =
        let same : with_object c 7 (Some []) ≡ patched_contents (patches_of r.extents) (name_of r.extents) c = Ok-same _ _ (sym created ∙ is.applied) in
        ap (λ (d : Contents). finite.get d.objects 7) (sym same) ∙ get-stored_same c.objects 7 (Some [])

    abbrev grown : Contents
    grown = with_object (with_object c 7 (Some [])) 7 (Some (0 ∷ 0 ∷ 0 ∷ 1 ∷ 2 ∷ 3 ∷ 4 ∷ 5 ∷ []))

    grows : apply_records (records_above 9 (growing_chain 10)) c ≡ Ok grown
    grows = rw (absent, get-stored_same c.objects 7 (Some [])) refl

    pub length_grown : (r : Extents × ℕ) → AreChangesOf (records_above 9 (growing_chain 10)) c r → object_length (laid_over (patches_of r.0) c.objects) 7 ≡ Some 8
    length_grown r made =
        let same : grown ≡ with_changes r.0 c = Ok-same _ _ (sym grows ∙ made.1) in
        ap (λ (x : Contents). option_map length (finite.get x.objects 7)) (sym same)
        ∙ ap (option_map length) (get-stored_same (with_object c 7 (Some [])).objects 7 (Some (0 ∷ 0 ∷ 0 ∷ 1 ∷ 2 ∷ 3 ∷ 4 ∷ 5 ∷ [])))

  -- the pool is named
  pub pool_named : (r : Replayed) → IsReplay 9 c (naming_chain 10) r → unwrap_or (name_of r.extents) c.name ≡ 112 ∷ 111 ∷ 110 ∷ 100 ∷ []
  pool_named r is =
      let taken : apply_records (records_above 9 (naming_chain 10)) c ≡ Ok (record { name = 112 ∷ 111 ∷ 110 ∷ 100 ∷ []; objects = c.objects }) = refl in
      let same : record { name = 112 ∷ 111 ∷ 110 ∷ 100 ∷ []; objects = c.objects } ≡ patched_contents (patches_of r.extents) (name_of r.extents) c = Ok-same _ _ (sym taken ∙ is.applied) in
      ap (λ (d : Contents). d.name) (sym same)

  -- and a creation is refused if the object is there
  module _ (there : finite.get c.objects 7 ≡ Some []) where
    pub creation_refused : IsRecordRefused (records_above 9 (creation_chain 10)) c 4194304
    creation_refused = record {
      before = [];
      refused = record { address = 4194304; logged = record { group = 10; ordinal = 0; ops = _ } };
      after = [];
      split = refl;
      reached = c;
      reaches = refl;
      error = Exists;
      refuses = rw there refl;
      address_is = refl;
    }

    pub creation_reported : (e : PoolError) → IsReplayRefusal (records_above 9 (creation_chain 10)) c e → (e ≡ NoMemory) ⊎ (e ≡ Damaged 6 4194304)
    creation_reported e (inl none) = inl none
    creation_reported e (inr (address, damaged, refused)) =
        inr (damaged ∙ ap (Damaged 6) ((refusals_agree (records_above 9 (creation_chain 10)) c 4194304 creation_refused).1 address refused))

    pub not_created : (r : Extents × ℕ) → AreChangesOf (records_above 9 (creation_chain 10)) c r → ⊥
    not_created r made = none_reached (records_above 9 (creation_chain 10)) c (with_changes r.0 c) 4194304 creation_refused made.1
