-- The labels without a valid config are printed as JSON, with commas between them.
use Rattle.std.proofs.Common.{◌≡◌, ◌++◌, ◌+◌, ◌<◌, ap, append_assoc, arith, drop, get_or, length, map, ℕ, suc, List, [], ◌∷◌, refl, sym, true, false, ◌∙◌}
use Rattle.std.proofs.KnownBytes.{Appends-trans}
use Rattle.std.specs.Io.KnownBytes.{Appends}
use Rattle.std.specs.Prelude.{Bool, Option, Some, slice_get}
use Rattle.std.proofs.lemmas.List.{drop_more}
use Rattle.read_commands.specs.FoundLabels.{AreLabelStates, HasConfig, IsStateAt, config_bytes_at, is_whole, some_whole}
use Rattle.read_commands.specs.declared.label_states.ConfigState.TheVariants.{Whole}
use Rattle.read_commands.specs.declared.label_states.LabelState.{LabelState}
use Rattle.read_commands.proofs.FoundLabels.{whole_state}
use Rattle.read_commands.specs.Json.{json_comma, json_lost, json_reason, json_reasons}

-- a label with a config is passed, another one is printed
passed : (is_first : Bool) (s : LabelState) (rest : List LabelState) → is_whole s.config ≡ true → json_reasons is_first (s ∷ rest) ≡ json_reasons is_first rest
passed is_first s rest whole = rw whole refl

printed : (is_first : Bool) (s : LabelState) (rest : List LabelState) → is_whole s.config ≡ false
    → json_reasons is_first (s ∷ rest) ≡ (json_comma is_first ++ json_reason s) ++ json_reasons false rest
printed is_first s rest lost = rw lost (sym (append_assoc (json_comma is_first) (json_reason s) (json_reasons false rest)))

module _ (all : List LabelState) (i : ℕ) (d : LabelState) (is_first : Bool) (front : List ℕ) (within : i < length all) (left : json_reasons true all ≡ front ++ json_reasons is_first (drop i all)) where
  next : front ++ json_reasons is_first (drop i all) ≡ front ++ json_reasons is_first (get_or all i d ∷ drop (i + 1) all)
  next = ap (λ (l : List LabelState). front ++ json_reasons is_first l) (drop_more all i d within)

  pub next_passed : is_whole (get_or all i d).config ≡ true → json_reasons true all ≡ front ++ json_reasons is_first (drop (i + 1) all)
  next_passed whole = left ∙ next ∙ ap (λ (t : List ℕ). front ++ t) (passed is_first (get_or all i d) (drop (i + 1) all) whole)

  pub next_printed : (before now after : Option (List ℕ)) → Appends before now front → is_whole (get_or all i d).config ≡ false → Appends now after (json_comma is_first ++ json_reason (get_or all i d))
      → (text : List ℕ) × Appends before after text × (json_reasons true all ≡ text ++ json_reasons false (drop (i + 1) all))
  next_printed before now after written lost one =
      let s = get_or all i d in (
        front ++ (json_comma is_first ++ json_reason s),
        Appends-trans before now after front (json_comma is_first ++ json_reason s) written one,
        left ∙ next ∙ ap (λ (t : List ℕ). front ++ t) (printed is_first s (drop (i + 1) all) lost) ∙ sym (append_assoc front (json_comma is_first ++ json_reason s) (json_reasons false (drop (i + 1) all))),
      )

-- what is printed of labels of which one has a config, or none
pub lost_of_some : (states : List LabelState) → some_whole states ≡ true → json_lost states ≡ json_reasons true states
lost_of_some states some = rw some refl

pub lost_of_none : (states : List LabelState) → some_whole states ≡ false → json_lost states ≡ []
lost_of_none states none = rw none refl

-- no label is printed if each has a config
module _ (image : List ℕ) (all : (label : ℕ) → label < 4 → HasConfig image label) where
  whole_at : (s : LabelState) (label : ℕ) → label < 4 → s.label ≡ label → IsStateAt image s → s.config ≡ Whole
  whole_at s label low is state =
      let (c, block) = all s.label (let low_too : s.label < 4 = omega (arith, low, is) in low_too) in
      whole_state (config_bytes_at image s.label) (length image) s.label s.config state c block

  none_of_four : (a b c d : LabelState) → map (λ (s : LabelState). s.label) (a ∷ b ∷ c ∷ d ∷ []) ≡ 0 ∷ 1 ∷ 2 ∷ 3 ∷ [] → ((k : ℕ) (s : LabelState) → slice_get (a ∷ b ∷ c ∷ d ∷ []) k ≡ Some s → IsStateAt image s)
      → json_reasons true (a ∷ b ∷ c ∷ d ∷ []) ≡ []
  none_of_four a b c d labels each =
      let one : a.config ≡ Whole = whole_at a 0 (omega arith) (cc) (each 0 a refl) in
      let two : b.config ≡ Whole = whole_at b 1 (omega arith) (cc) (each 1 b refl) in
      let three : c.config ≡ Whole = whole_at c 2 (omega arith) (cc) (each 2 c refl) in
      let four : d.config ≡ Whole = whole_at d 3 (omega arith) (cc) (each 3 d refl) in
      rw (one, two, three, four) refl

  none_of : (states : List LabelState) → map (λ (s : LabelState). s.label) states ≡ 0 ∷ 1 ∷ 2 ∷ 3 ∷ [] → ((k : ℕ) (s : LabelState) → slice_get states k ≡ Some s → IsStateAt image s)
      → json_reasons true states ≡ []
  none_of (a ∷ b ∷ c ∷ d ∷ []) labels each = none_of_four a b c d labels each
  none_of [] labels each = refl
  none_of (a ∷ []) labels each = absurd (let no : 1 ≡ 4 = ap length labels in omega (arith, no))
  none_of (a ∷ b ∷ []) labels each = absurd (let no : 2 ≡ 4 = ap length labels in omega (arith, no))
  none_of (a ∷ b ∷ c ∷ []) labels each = absurd (let no : 3 ≡ 4 = ap length labels in omega (arith, no))
  none_of (a ∷ b ∷ c ∷ d ∷ e ∷ more) labels each = absurd (let no : suc (suc (suc (suc (suc (length (map (λ (s : LabelState). s.label) more)))))) ≡ 4 = ap length labels in omega (arith, no))

  pub none_lost : (states : List LabelState) → AreLabelStates image states → json_lost states ≡ []
  none_lost states are = by (some_whole states) refl
    where
      by : (some : Bool) → some_whole states ≡ some → json_lost states ≡ []
      by true is = lost_of_some states is ∙ none_of states are.labels are.each
      by false is = lost_of_none states is
