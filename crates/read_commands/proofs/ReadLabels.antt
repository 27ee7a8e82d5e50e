-- What was read of the labels of a device is so of its image: each slot, each config, and the active uberblock.
use Rattle.std.proofs.Common.{◌≡◌, ◌+◌, ◌*◌, ◌<◌, ◌≤◌, ◌⊎◌, ap, arith, get_or, inl, inr, length, refl, subst, sym, ℕ, zero, suc, List, [], ◌∷◌, ◌∙◌}
use Rattle.std.specs.Prelude.{Err, IfNone, IfOk, IfSome, None, Ok, Option, Result, Some, max, slice_get}
use Rattle.std.proofs.lemmas.Bool.{cases_lt}
use Rattle.std.proofs.lemmas.Option.{slice_get-get_or}
use Rattle.base.specs.declared.names.Group.{Group}
use Rattle.base.specs.formats.Fields.{part}
use Rattle.base.specs.formats.Geometry.{label_place, slot_of, slot_place}
use Rattle.base.specs.formats.Labels.{Config}
use Rattle.base.specs.formats.Uberblocks.{Uberblock, IsActive, IsUberblock, StandsIn}
use Rattle.base.proofs.disk.Put.{part-part}
use Rattle.base.proofs.formats.Geometry.{slot-below}
use Rattle.labels.specs.Configs.{IsConfigBlock}
use Rattle.file_devices.specs.declared.held_file.FileRefusal.{FileRefusal}
use Rattle.read_commands.specs.FoundLabels.{IsReasonOf, config_bytes_at, state_of}
use Rattle.read_commands.specs.ReadLabels.{AreConfigsFound, AreCounted, AreLabelsFound, AreLabelsOf, AreLabelsRead, HasGroupAt, IsActiveFound, IsActiveRead, IsConfigFound, IsCountedWith, IsLabelFound, IsLabelRead, LabelFound, slots_of, slots_read}
use Rattle.read_commands.specs.declared.label_lines.ConfigFound.{ConfigFound}
use Rattle.read_commands.specs.declared.label_lines.ConfigFound.TheVariants as found
use Rattle.read_commands.specs.declared.labels_read.Labels.{Labels}
use Rattle.read_commands.specs.declared.label_texts.Active.{Active}
use Rattle.read_commands.specs.declared.label_texts.Active.TheVariants as uberblock
use Rattle.uberblocks.specs.Rings.{IsActiveInRing, IsRingOf, StandsInRing}
use Rattle.uberblocks.specs.Slots.{HoldsNoUberblock, fields_of}
use Rattle.uberblocks.specs.declared.uberblock.Uberblock.{Uberblock as Found}
use Rattle.uberblocks.proofs.Images.{rings_show_none}

-- a slot of the arrays that were read is the slot of the image
slot_read : (ring image : List ℕ) (label slot : ℕ) → IsRingOf ring image → label < 4 → slot < 128 → slots_read ring label slot ≡ slots_of image label slot
slot_read ring image label slot of below low =
    sym (part-part ring (131072 * label) 131072 (1024 * slot) 1024 (omega arith))
    ∙ ap (λ (l : List ℕ). part l (1024 * slot) 1024) (of label below)
    ∙ part-part image (slot_place (length image) label 0) 131072 (1024 * slot) 1024 (omega arith)
    ∙ ap (λ (k : ℕ). part image k 1024) (further (label_place (length image) label))
  where
    further : (start : ℕ) → start + 131072 + 1024 * 0 + 1024 * slot ≡ start + 131072 + 1024 * slot
    further start = omega arith

-- so what was counted in some first slots of the arrays is counted in those of the image
counted_in_image : (ring image : List ℕ) (label k count highest : ℕ) → IsRingOf ring image → label < 4 → k ≤ 128 → AreCounted (slots_read ring label) k count highest → AreCounted (slots_of image label) k count highest
unfolding AreCounted
counted_in_image ring image label zero count highest of below low none = none
counted_in_image ring image label (suc k) count highest of below low (before, top, counted, with) = (
  before,
  top,
  counted_in_image ring image label k before top of below (omega (arith, low)) counted,
  subst (λ (l : List ℕ). IsCountedWith l before top count highest) (slot_read ring image label k of below (omega (arith, low))) with,
)

-- a label that was read so is one of the image
label_found : (image : List ℕ) (labels : Labels) (label : ℕ) (l : LabelFound) → label < 4 → AreLabelsOf image labels → IsLabelRead labels label l → IsLabelFound image label l
label_found image labels label l below of read = record {
  config =
      let count : length labels.configs ≡ 4 = of.configs.count in
      let at = slice_get-get_or labels.configs label found.Zeros (omega (arith, below, count)) in
      subst (IsConfigFound (config_bytes_at image label) (length image)) (read.config (get_or labels.configs label found.Zeros) at) (of.configs.each label (get_or labels.configs label found.Zeros) at);
  uberblocks = counted_in_image labels.ring.items image label 128 l.count l.highest of.ring below (omega arith) read.uberblocks;
}

-- the active uberblock of the arrays is that of the image, in the same label
stands_there : (ring image : List ℕ) (k : ℕ) (u : Uberblock) → IsRingOf ring image → k < 4 → StandsInRing ring k u → StandsIn image k u
stands_there ring image k u of below stands = subst (λ (l : List ℕ). IsUberblock l u) (slot_read ring image k (slot_of u.group) of below (slot-below u.group)) stands

stood_there : (ring image : List ℕ) (k : ℕ) (u : Uberblock) → IsRingOf ring image → k < 4 → StandsIn image k u → StandsInRing ring k u
stood_there ring image k u of below stands = subst (λ (l : List ℕ). IsUberblock l u) (sym (slot_read ring image k (slot_of u.group) of below (slot-below u.group))) stands

abbrev active_there : (ring image : List ℕ) (u : Uberblock) → IsRingOf ring image → IsActiveInRing ring u → IsActive image u
active_there ring image u of is = record {
  label = is.label;
  in_range = is.in_range;
  stands = stands_there ring image is.label u of is.in_range is.stands;
  highest = λ k other below stands. is.highest k other below (stood_there ring image k other of below stands);
  lowest = λ k other below stands. is.lowest k other below (stood_there ring image k other of (let low = is.in_range in omega arith) stands);
}

active_found : (image ring : List ℕ) (active : Active) → IsRingOf ring image → IsActiveRead ring active → IsActiveFound image active
active_found image ring uberblock.Missing of none = (rings_show_none ring image of).0 none
active_found image ring (uberblock.Unplaced group) of read = absurd read
active_found image ring (uberblock.Found group label) of (u, a, same, here) = (u, active_there ring image u of a, same, here)

-- and so is all that was read
pub labels_found : (image : List ℕ) (labels : Labels) (a b c d : LabelFound) (active : Active) → AreLabelsOf image labels → AreLabelsRead labels a b c d active → AreLabelsFound image a b c d active
labels_found image labels a b c d active of read = record {
  of_zeroth = label_found image labels 0 a (omega arith) of read.of_zeroth;
  of_first = label_found image labels 1 b (omega arith) of read.of_first;
  of_second = label_found image labels 2 c (omega arith) of read.of_second;
  of_third = label_found image labels 3 d (omega arith) of read.of_third;
  of_active = active_found image labels.ring.items active of.ring read.of_active;
}

-- what was found in the places of the four configs
pub four_configs : (image : List ℕ) (a b c d : ConfigFound) → IsConfigFound (config_bytes_at image 0) (length image) a → IsConfigFound (config_bytes_at image 1) (length image) b → IsConfigFound (config_bytes_at image 2) (length image) c
    → IsConfigFound (config_bytes_at image 3) (length image) d → AreConfigsFound image (a ∷ b ∷ c ∷ d ∷ [])
four_configs image a b c d fa fb fc fd = record { count = refl; each = each }
  where
    each : (label : ℕ) (f : ConfigFound) → slice_get (a ∷ b ∷ c ∷ d ∷ []) label ≡ Some f → IsConfigFound (config_bytes_at image label) (length image) f
    each zero f at = let e : a ≡ f = cc in subst (IsConfigFound (config_bytes_at image 0) (length image)) e fa
    each (suc zero) f at = let e : b ≡ f = cc in subst (IsConfigFound (config_bytes_at image 1) (length image)) e fb
    each (suc (suc zero)) f at = let e : c ≡ f = cc in subst (IsConfigFound (config_bytes_at image 2) (length image)) e fc
    each (suc (suc (suc zero))) f at = let e : d ≡ f = cc in subst (IsConfigFound (config_bytes_at image 3) (length image)) e fd
    each (suc (suc (suc (suc k)))) f at = absurd (let e : None ≡ Some f = at in cc)

-- the lowest label that has the group of the active uberblock is the label of that
pub lowest_label : (ring : List ℕ) (u : Uberblock) (group : Group) (label : ℕ) → IsActiveInRing ring u → u.group ≡ group.0 → label < 4 → HasGroupAt ring label group → ((k : ℕ) → k < label → HasGroupAt ring k group → ⊥)
    → (a : IsActiveInRing ring u) × (a.label ≡ label)
lowest_label ring u group label a same low (other, stands, of_group) lowest = (a, by (cases_lt a.label label) (cases_lt label a.label))
  where
    by : (a.label < label) ⊎ (label ≤ a.label) → (label < a.label) ⊎ (a.label ≤ label) → a.label ≡ label
    by (inl before) after = absurd (lowest a.label before (u, a.stands, same))
    by (inr here) (inl after) = absurd (a.lowest label other after stands (of_group ∙ sym same))
    by (inr here) (inr there) = omega (arith, here, there)

-- a block that is no config is none for this reason
pub none_found : (block : List ℕ) (size : ℕ) (f : ConfigFound) → ((c : Config) → IsConfigBlock block size c → ⊥) → IsReasonOf block (state_of f) → IsConfigFound block size f
none_found block size (found.Config c) none reason = absurd reason
none_found block size (found.OfSize other) none reason = (none, reason)
none_found block size found.Zeros none reason = (none, reason)
none_found block size found.Unchecked none reason = (none, reason)

-- what is so of the labels that were read is so of those of what was opened
pub opened_found : {Dev : Type 0} (P : Dev → Labels → Type 0) (opened : Result Dev FileRefusal) (device : Dev) (labels : Labels) → opened ≡ Ok device → P device labels → IfOk opened (λ d. P d labels)
opened_found P opened device labels is p = subst (λ (o : Result _ FileRefusal). IfOk o (λ d. P d labels)) (sym is) p

-- what is so of the labels of what was opened is so of the device
pub of_opened : {Dev : Type 0} (keeps : Type 0) (P : Dev → Labels → Type 0) (Q : Dev → Type 0) (opened : Result Dev FileRefusal) (labels : Labels) → (keeps → IfOk opened (λ d. P d labels)) → ((d : Dev) → (keeps → P d labels) → Q d) → IfOk opened Q
of_opened keeps P Q (Ok device) labels p each = each device p
of_opened keeps P Q (Err cause) labels p each = tt

-- none is counted before the first slot
pub none_so_far : (slots : ℕ → List ℕ) → AreCounted slots 0 0 0
unfolding AreCounted
none_so_far slots = (refl, refl)

-- with a slot more so many are counted
pub counted_more : (slots : ℕ → List ℕ) (k count highest : ℕ) (after : ℕ × Group) (o : Option Found) → IfSome o (λ u. IsUberblock (slots k) (fields_of u)) → IfNone o (HoldsNoUberblock (slots k))
    → IfSome o (λ u. (after.0 ≡ count + 1) × (after.1.0 ≡ max highest u.group.0)) → IfNone o (after ≡ (count, record { 0 = highest }))
    → AreCounted slots k count highest → AreCounted slots (k + 1) after.0 after.1.0
unfolding AreCounted
counted_more slots k count highest after (Some u) held lacks more same counted = subst (λ n. AreCounted slots n after.0 after.1.0) (let e : suc k ≡ k + 1 = omega arith in e) (count, highest, counted, inl (fields_of u, held, more.0, more.1))
counted_more slots k count highest after None held lacks more same counted = subst (λ n. AreCounted slots n after.0 after.1.0) (let e : suc k ≡ k + 1 = omega arith in e) (count, highest, counted, inr (lacks, ap (λ (p : ℕ × Group). p.0) same, ap (λ (p : ℕ × Group). p.1.0) same))

pub few_more : (o : Option Found) (count k : ℕ) (after : ℕ × Group) (highest : ℕ) → count ≤ k → IfSome o (λ u. (after.0 ≡ count + 1) × (after.1.0 ≡ max highest u.group.0)) → IfNone o (after ≡ (count, record { 0 = highest })) → after.0 ≤ k + 1
few_more (Some u) count k after highest few more same = let one : after.0 ≡ count + 1 = more.0 in omega (arith, few, one)
few_more None count k after highest few more same = let one : after.0 ≡ count = ap (λ (p : ℕ × Group). p.0) same in omega (arith, few, one)

-- a label has the uberblock of a group if that is in its slot, and hasn't if the slot holds another one or none
module _ (ring : List ℕ) (label slot : ℕ) (group : Group) (is : slot ≡ slot_of group.0) where
  pub group_there : (u : Found) → IsUberblock (slots_read ring label slot) (fields_of u) → u.group.0 ≡ group.0 → HasGroupAt ring label group
  group_there u held same = (fields_of u, subst (λ n. IsUberblock (slots_read ring label n) (fields_of u)) (is ∙ ap slot_of (sym same)) held, same)

  held_there : (u : Uberblock) → StandsInRing ring label u → u.group ≡ group.0 → IsUberblock (slots_read ring label slot) u
  held_there u stands same = subst (λ n. IsUberblock (slots_read ring label n) u) (ap slot_of same ∙ sym is) stands

  pub other_there : (v : Found) → IsUberblock (slots_read ring label slot) (fields_of v) → (v.group.0 ≡ group.0 → ⊥) → HasGroupAt ring label group → ⊥
  other_there v held other (u, stands, same) = other (sym held.group ∙ (held_there u stands same).group ∙ same)

  pub none_there : HoldsNoUberblock (slots_read ring label slot) → HasGroupAt ring label group → ⊥
  none_there none (u, stands, same) = none u (held_there u stands same)

-- no label so far has it, nor has the next one
pub none_more : (P : ℕ → Type 0) (label : ℕ) → ((k : ℕ) → k < label → P k → ⊥) → (P label → ⊥) → (k : ℕ) → k < label + 1 → P k → ⊥
none_more P label before here k below p = by (cases_lt k label)
  where
    by : (k < label) ⊎ (label ≤ k) → ⊥
    by (inl low) = before k low p
    by (inr high) = here (subst P (let e : k ≡ label = omega (arith, below, high) in e) p)
