-- The labels without a valid config are those of the image, and they are printed, a line each.
use Rattle.std.proofs.Common.{◌≡◌, ◌≢◌, ◌++◌, ◌+◌, ◌<◌, ap, append-nil, append_assoc, arith, drop, get_or, length, map, ℕ, zero, suc, List, [], ◌∷◌, refl, subst, sym, true, false, ◌∙◌}
use Rattle.std.proofs.KnownBytes.{Appends-trans}
use Rattle.std.specs.Io.KnownBytes.{Appends}
use Rattle.std.specs.Fmt.{decimal, digits}
use Rattle.std.specs.Prelude.{Bool, None, Option, Some, codes, slice_get}
use Rattle.std.proofs.lemmas.List.{drop_more}
use Rattle.labels.specs.Configs.{IsConfigBlock}
use Rattle.base.specs.formats.Labels.{Config}
use Rattle.read_commands.specs.FoundLabels.{AreLabelStates, HasConfig, IsReasonOf, IsStateAt, IsStateOf, config_bytes_at, config_line, label_lines, some_whole, state_line, state_lines}
use Rattle.read_commands.specs.declared.label_states.ConfigState.{ConfigState}
use Rattle.read_commands.specs.declared.label_states.ConfigState.TheVariants.{OtherSize, Unchecked, Whole, Zeroed}
use Rattle.read_commands.specs.declared.label_states.LabelState.{LabelState}

-- a block without a config is so for this reason
pub with_reason : (block : List ℕ) (size : ℕ) (state : ConfigState) → ((c : Config) → IsConfigBlock block size c → ⊥) → IsReasonOf block state → IsStateOf block size state
with_reason block size Whole none reason = absurd reason
with_reason block size (OtherSize other) none reason = (none, reason)
with_reason block size Zeroed none reason = (none, reason)
with_reason block size Unchecked none reason = (none, reason)

-- what the four labels hold was read
pub four_states : (image : List ℕ) (a b c d : LabelState) → a.label ≡ 0 → b.label ≡ 1 → c.label ≡ 2 → d.label ≡ 3 → IsStateAt image a → IsStateAt image b → IsStateAt image c → IsStateAt image d
    → AreLabelStates image (a ∷ b ∷ c ∷ d ∷ [])
four_states image a b c d zeroth first second third sa sb sc sd = record { labels = cc; each = each }
  where
    each : (k : ℕ) (s : LabelState) → slice_get (a ∷ b ∷ c ∷ d ∷ []) k ≡ Some s → IsStateAt image s
    each zero s at = let e : a ≡ s = cc in subst (IsStateAt image) e sa
    each (suc zero) s at = let e : b ≡ s = cc in subst (IsStateAt image) e sb
    each (suc (suc zero)) s at = let e : c ≡ s = cc in subst (IsStateAt image) e sc
    each (suc (suc (suc zero))) s at = let e : d ≡ s = cc in subst (IsStateAt image) e sd
    each (suc (suc (suc (suc k)))) s at = absurd (let e : None ≡ Some s = at in cc)

-- one line more is written
pub next_state : (all : List LabelState) (i : ℕ) (d : LabelState) (before now after : Option (List ℕ)) (front : List ℕ) → i < length all → Appends before now front
    → state_lines all ≡ front ++ state_lines (drop i all) → Appends now after (state_line (get_or all i d))
    → (lines : List ℕ) × Appends before after lines × (state_lines all ≡ lines ++ state_lines (drop (i + 1) all))
next_state all i d before now after front within written left line =
    let s = get_or all i d in (
      front ++ state_line s,
      Appends-trans before now after front (state_line s) written line,
      left ∙ ap (λ (l : List LabelState). front ++ state_lines l) (drop_more all i d within) ∙ sym (append_assoc front (state_line s) (state_lines (drop (i + 1) all))),
    )

-- what is printed of labels of which one has a config, or none
pub lines_of_some : (states : List LabelState) → some_whole states ≡ true → label_lines states ≡ state_lines states
lines_of_some states some = rw some refl

pub lines_of_none : (states : List LabelState) → some_whole states ≡ false → label_lines states ≡ []
lines_of_none states none = rw none refl

-- nothing is printed of a label that has a config
pub whole_state : (block : List ℕ) (size label : ℕ) (config : ConfigState) → IsStateOf block size config → (c : Config) → IsConfigBlock block size c → config ≡ Whole
whole_state block size label Whole state c is = refl
whole_state block size label (OtherSize other) state c is = absurd (state.0 c is)
whole_state block size label Zeroed state c is = absurd (state.0 c is)
whole_state block size label Unchecked state c is = absurd (state.0 c is)

module _ (image : List ℕ) (all : (label : ℕ) → label < 4 → HasConfig image label) where
  of_label : (s : LabelState) (label : ℕ) → label < 4 → s.label ≡ label → IsStateAt image s → state_line s ≡ []
  of_label s label low is state =
      let (c, block) = all s.label (let low_too : s.label < 4 = omega (arith, low, is) in low_too) in
      rw (whole_state (config_bytes_at image s.label) (length image) s.label s.config state c block) refl

  nothing_of_four : (a b c d : LabelState) → map (λ (s : LabelState). s.label) (a ∷ b ∷ c ∷ d ∷ []) ≡ 0 ∷ 1 ∷ 2 ∷ 3 ∷ [] → ((k : ℕ) (s : LabelState) → slice_get (a ∷ b ∷ c ∷ d ∷ []) k ≡ Some s → IsStateAt image s)
      → state_lines (a ∷ b ∷ c ∷ d ∷ []) ≡ []
  nothing_of_four a b c d labels each =
      let one : state_line a ≡ [] = of_label a 0 (omega arith) (cc) (each 0 a refl) in
      let two : state_line b ≡ [] = of_label b 1 (omega arith) (cc) (each 1 b refl) in
      let three : state_line c ≡ [] = of_label c 2 (omega arith) (cc) (each 2 c refl) in
      let four : state_line d ≡ [] = of_label d 3 (omega arith) (cc) (each 3 d refl) in
      rw (one, two, three, four) refl

  nothing_of : (states : List LabelState) → map (λ (s : LabelState). s.label) states ≡ 0 ∷ 1 ∷ 2 ∷ 3 ∷ [] → ((k : ℕ) (s : LabelState) → slice_get states k ≡ Some s → IsStateAt image s)
      → state_lines states ≡ []
  nothing_of (a ∷ b ∷ c ∷ d ∷ []) labels each = nothing_of_four a b c d labels each
  nothing_of [] labels each = refl
  nothing_of (a ∷ []) labels each = absurd (let no : 1 ≡ 4 = ap length labels in omega (arith, no))
  nothing_of (a ∷ b ∷ []) labels each = absurd (let no : 2 ≡ 4 = ap length labels in omega (arith, no))
  nothing_of (a ∷ b ∷ c ∷ []) labels each = absurd (let no : 3 ≡ 4 = ap length labels in omega (arith, no))
  nothing_of (a ∷ b ∷ c ∷ d ∷ e ∷ more) labels each = absurd (let no : suc (suc (suc (suc (suc (length (map (λ (s : LabelState). s.label) more)))))) ≡ 4 = ap length labels in omega (arith, no))

-- the line of label 1, if it has no config
named_line : (config : ConfigState) → config ≢ Whole → (reason : List ℕ) × (config_line 1 config ≡ codes "label 1 config none " ++ reason)
unfolding digits
named_line Whole other = absurd (other refl)
named_line (OtherSize size) other = (codes "size " ++ (decimal size ++ codes "\n"), refl)
named_line Zeroed other = (codes "zeros\n", refl)
named_line Unchecked other = (codes "check\n", refl)

named_line_at : (label : ℕ) (config : ConfigState) → label ≡ 1 → config ≢ Whole → (reason : List ℕ) × (config_line label config ≡ codes "label 1 config none " ++ reason)
named_line_at label config is other = let (reason, line) = named_line config other in (reason, ap (λ (n : ℕ). config_line n config) is ∙ line)

-- it is all that is printed, if the others have one
second_alone : (a b c d : LabelState) (line : List ℕ) → a.config ≡ Whole → c.config ≡ Whole → d.config ≡ Whole → state_line b ≡ line → label_lines (a ∷ b ∷ c ∷ d ∷ []) ≡ line
second_alone a b c d line one three four is = rw (one, three, four, is) (append-nil line)

module _ (image : List ℕ) (first : HasConfig image 0) (second : HasConfig image 1 → ⊥) (third : HasConfig image 2) (fourth : HasConfig image 3) where
  -- the state of a label that has a config, and of one that has none
  is_whole_at : (s : LabelState) (label : ℕ) → s.label ≡ label → HasConfig image label → IsStateAt image s → s.config ≡ Whole
  is_whole_at s label is has state =
      let (c, block) = subst (HasConfig image) (sym is) has in
      whole_state (config_bytes_at image s.label) (length image) s.label s.config state c block

  not_whole_at : (s : LabelState) → s.label ≡ 1 → IsStateAt image s → s.config ≢ Whole
  not_whole_at s is state whole =
      second (subst (HasConfig image) is (subst (λ (config : ConfigState). IsStateOf (config_bytes_at image s.label) (length image) config) whole state))

  named_of_four : (a b c d : LabelState) → map (λ (s : LabelState). s.label) (a ∷ b ∷ c ∷ d ∷ []) ≡ 0 ∷ 1 ∷ 2 ∷ 3 ∷ [] → ((k : ℕ) (s : LabelState) → slice_get (a ∷ b ∷ c ∷ d ∷ []) k ≡ Some s → IsStateAt image s)
      → (reason : List ℕ) × (label_lines (a ∷ b ∷ c ∷ d ∷ []) ≡ codes "label 1 config none " ++ reason)
  named_of_four a b c d labels each =
      let one : a.config ≡ Whole = is_whole_at a 0 (cc) first (each 0 a refl) in
      let is : b.label ≡ 1 = cc in
      let three : c.config ≡ Whole = is_whole_at c 2 (cc) third (each 2 c refl) in
      let four : d.config ≡ Whole = is_whole_at d 3 (cc) fourth (each 3 d refl) in
      let (reason, line) = named_line_at b.label b.config is (not_whole_at b is (each 1 b refl)) in
      (reason, second_alone a b c d (codes "label 1 config none " ++ reason) one three four line)

  pub named_of : (states : List LabelState) → map (λ (s : LabelState). s.label) states ≡ 0 ∷ 1 ∷ 2 ∷ 3 ∷ [] → ((k : ℕ) (s : LabelState) → slice_get states k ≡ Some s → IsStateAt image s)
      → (reason : List ℕ) × (label_lines states ≡ codes "label 1 config none " ++ reason)
  named_of (a ∷ b ∷ c ∷ d ∷ []) labels each = named_of_four a b c d labels each
  named_of [] labels each = absurd (let no : 0 ≡ 4 = ap length labels in omega (arith, no))
  named_of (a ∷ []) labels each = absurd (let no : 1 ≡ 4 = ap length labels in omega (arith, no))
  named_of (a ∷ b ∷ []) labels each = absurd (let no : 2 ≡ 4 = ap length labels in omega (arith, no))
  named_of (a ∷ b ∷ c ∷ []) labels each = absurd (let no : 3 ≡ 4 = ap length labels in omega (arith, no))
  named_of (a ∷ b ∷ c ∷ d ∷ e ∷ more) labels each = absurd (let no : suc (suc (suc (suc (suc (length (map (λ (s : LabelState). s.label) more)))))) ≡ 4 = ap length labels in omega (arith, no))

pub nothing_of_whole : (image : List ℕ) (states : List LabelState) → AreLabelStates image states → ((label : ℕ) → label < 4 → HasConfig image label) → label_lines states ≡ []
nothing_of_whole image states are all = by (some_whole states) refl
  where
    by : (some : Bool) → some_whole states ≡ some → label_lines states ≡ []
    by true is = lines_of_some states is ∙ nothing_of image all states are.labels are.each
    by false is = lines_of_none states is
