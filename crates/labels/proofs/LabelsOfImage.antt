-- The configs of an image's labels, and what is chosen among them.
use Rattle.std.proofs.Common.{◌≡◌, ℕ, ◌<◌, ◌≤◌, ◌⊎◌, inl, inr, List, length, drop, get_or, Option, Some, None, refl, sym, ◌∙◌, ap, subst, arith}
use Rattle.std.specs.Prelude.{slice_get}
use Rattle.std.proofs.lemmas.Option.{slice_get_within, slice_get_cases}
use Rattle.base.specs.formats.Fields.{part}
use Rattle.base.specs.formats.Geometry.{config_place}
use Rattle.base.specs.formats.Blocks.{IsBlock}
use Rattle.base.specs.formats.Labels.{Config, IsConfigPayload, IsConfig, IsChoice, HasNoCandidate, IsChosen, HasNoConfig, IsKeptInOdd}
use Rattle.labels.specs.Configs.{IsConfigBlock}
use Rattle.labels.specs.Choices.{IsKeptIn, IsRead, AreRead}
use Rattle.labels.specs.Laws.{IsSoOfImage}
use Rattle.labels.proofs.ConfigBlocks.{configs-told_apart}

module _ (image : List ℕ) where
  -- the bytes of a label's config
  abbrev block_of : ℕ → List ℕ
  block_of label = part image (config_place (length image) label) 4096

  -- a label with this block has the config
  pub IsConfigBlock-IsConfig : (label : ℕ) (c : Config) → IsConfigBlock (block_of label) (length image) c → IsConfig image label c.guid c.group c.name
  IsConfigBlock-IsConfig label c b = record { payload = drop 64 (block_of label); block = b.sealed; fields = b.fields }

  -- and the other way round
  pub IsConfig-IsConfigBlock : (label guid group : ℕ) (name : List ℕ) → IsConfig image label guid group name
      → IsConfigBlock (block_of label) (length image) (record { guid = guid; group = group; size = length image; name = name })
  IsConfig-IsConfigBlock label guid group name c = record {
    sealed = let P : List ℕ → Type 0 = λ payload. IsBlock (block_of label) 1 guid group 0 payload in subst P (sym c.block.payload_is) c.block;
    fields = let P : List ℕ → Type 0 = λ payload. IsConfigPayload payload (length image) name in subst P (sym c.block.payload_is) c.fields;
    size_is = refl;
  }

  module _ (configs : List (Option Config)) (read : AreRead image configs) where
    -- a config that was read is there
    pub read-IsConfig : (label : ℕ) (c : Config) → slice_get configs label ≡ Some (Some c) → IsConfig image label c.guid c.group c.name
    read-IsConfig label c is = IsConfigBlock-IsConfig label c (read.each label (Some c) is)

    -- and has the size of the image
    pub read-size : (label : ℕ) (c : Config) → slice_get configs label ≡ Some (Some c) → c.size ≡ length image
    read-size label c is = (read.each label (Some c) is).size_is

    -- a config that is there was read
    pub IsConfig-read : (label guid group : ℕ) (name : List ℕ) → label < 4 → IsConfig image label guid group name
        → slice_get configs label ≡ Some (Some (record { guid = guid; group = group; size = length image; name = name }))
    IsConfig-read label guid group name below is = by_cases (slice_get_cases configs label).1
      where
        held : (o : Option Config) → slice_get configs label ≡ Some o → IsRead image label o → slice_get configs label ≡ Some (Some (record { guid = guid; group = group; size = length image; name = name }))
        held None at not = absurd (not (record { guid = guid; group = group; size = length image; name = name }) (IsConfig-IsConfigBlock label guid group name is))
        held (Some d) at b = at ∙ ap (λ (e : Config). Some (Some e)) (configs-told_apart (block_of label) (length image) d (record { guid = guid; group = group; size = length image; name = name }) b (IsConfig-IsConfigBlock label guid group name is))

        by_cases : ((x : Option Config) × (label < length configs) × (slice_get configs label ≡ Some x) × (get_or configs label x ≡ x)) ⊎ ((length configs ≤ label) × (slice_get configs label ≡ None))
            → slice_get configs label ≡ Some (Some (record { guid = guid; group = group; size = length image; name = name }))
        by_cases (inl h) = held h.0 h.2 (read.each label h.0 h.2)
        by_cases (inr h) = absurd (omega (arith, h.0, read.count, below))

    -- so the choice is what the image gives
    choice : (guid group : ℕ) (c : Config) → IsChoice configs guid group c → IsChosen image guid group c.group c.name
    choice guid group c x =
        let l : x.label < length configs = slice_get_within configs x.label (Some c) x.candidate.0 in
        record {
          label = x.label;
          in_range = omega (arith, l, read.count);
          stands = let P : ℕ → Type 0 = λ g. IsConfig image x.label g c.group c.name in subst P x.candidate.1 (read-IsConfig x.label c x.candidate.0);
          not_above = x.candidate.2;
          highest = λ k g other below at is. x.highest k (record { guid = guid; group = g; size = length image; name = other }) (IsConfig-read k guid g other below is, refl, at);
          lowest = λ k other below is. x.lowest k (record { guid = guid; group = c.group; size = length image; name = other }) below
              (IsConfig-read k guid c.group other (omega (arith, below, l, read.count)) is, refl, x.candidate.2) refl;
        }

    none : (guid group : ℕ) → HasNoCandidate configs guid group → HasNoConfig image guid group
    none guid group not = λ k g name below at is. not k (record { guid = guid; group = g; size = length image; name = name }) (IsConfig-read k guid g name below is, refl, at)

    kept : (c : Config) → c.size ≡ length image → IsKeptIn configs c → IsKeptInOdd image c.guid c.group c.name
    kept c size (inl one) = inl (read-IsConfig 1 c one)
    kept c size (inr three) = inr (read-IsConfig 3 c three)

    kept-back : (c : Config) → c.size ≡ length image → IsKeptInOdd image c.guid c.group c.name → IsKeptIn configs c
    kept-back c size (inl one) = inl (IsConfig-read 1 c.guid c.group c.name (omega arith) one ∙ ap (λ (n : ℕ). Some (Some (record c { size = n }))) (sym size))
    kept-back c size (inr three) = inr (IsConfig-read 3 c.guid c.group c.name (omega arith) three ∙ ap (λ (n : ℕ). Some (Some (record c { size = n }))) (sym size))

    pub so_of_image : (guid group : ℕ) → IsSoOfImage image configs guid group
    so_of_image guid group = record {
      chosen = λ c x. (choice guid group c x, x.candidate.1, read-size x.label c x.candidate.0);
      none = none guid group;
      kept = λ c size. (kept c size, kept-back c size);
    }
