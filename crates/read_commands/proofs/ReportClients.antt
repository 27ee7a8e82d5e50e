-- What reports print of an image, where there were no bytes before: of one object of two bytes, of a pool's name, of its space, and of its labels.
use Rattle.std.proofs.Common.{◌≡◌, ◌++◌, ◌+◌, ◌<◌, ap, append_assoc, arith, length, zero, suc, inl, inr, ℕ, List, [], ◌∷◌, refl, subst, sym, ◌∙◌}
use Rattle.std.specs.FinMap as finite
use Rattle.std.specs.Fmt.{decimal, digits}
use Rattle.std.specs.Io.KnownBytes.{Appends}
use Rattle.std.specs.Prelude.{Option, Some, codes}
use Rattle.base.specs.tree.Mount.{MountsTo}
use Rattle.base.specs.declared.names.ObjectId.{ObjectId}
use Rattle.base.specs.formats.Geometry.{block_count}
use Rattle.base.specs.formats.Limits.{one_level_length}
use Rattle.base.specs.formats.Uberblocks.{HasNoUberblock}
use Rattle.base.specs.history.Contents.{Contents}
use Rattle.command_arguments.specs.declared.reports.Scope.{Scope}
use Rattle.command_arguments.specs.declared.reports.SpaceUnit.TheVariants as unit
use Rattle.read_commands.specs.Json.{json_listed, json_objects, json_shown}
use Rattle.read_commands.specs.JsonLabels.{PrintsLabels, json_active, json_config, json_found_label, json_four, json_ring}
use Rattle.read_commands.specs.LabelTexts.{WritesFour, active_text, config_text, found_text, four_texts, ring_text}
use Rattle.read_commands.specs.ObjectBlocks.{long_lines}
use Rattle.read_commands.specs.PoolLines.{WritesInspected}
use Rattle.read_commands.specs.ReadLabels.{AreCounted, IsActiveFound}
use Rattle.read_commands.specs.ReadScopes.{WritesObjects}
use Rattle.read_commands.specs.Space.{amount_text, block_bytes, pool_space_lines, space_lines}
use Rattle.read_commands.specs.declared.label_texts.Active.{Active}
use Rattle.read_commands.specs.declared.label_texts.Active.TheVariants as uberblock
use Rattle.uberblocks.specs.Slots.{HoldsNoUberblock}
use Rattle.read_commands.proofs.MountedBytes.{appended}
use Rattle.read_commands.proofs.PoolLines.{told_of}
use Rattle.read_commands.proofs.ScopedReads.{assured, seven_listed}

-- what is printed of the objects is of this object alone
two_told : (lines : List (ObjectId × ℕ) → List ℕ) (scope : Scope) (keeps : Type 0) (image : List ℕ) (before after : Option (List ℕ)) → keeps → (contents : Contents) → MountsTo image contents
    → finite.entries contents.objects ≡ (7, 10 ∷ 11 ∷ []) ∷ [] → before ≡ Some [] → WritesObjects scope keeps image lines before after
    → after ≡ Some (lines ((record { 0 = 7 }, 2) ∷ []))
two_told lines scope keeps image before after kept contents mounts alone empty w =
    appended after (lines w.objects) (subst (λ (b : Option (List ℕ)). Appends b after (lines w.objects)) empty w.writes)
    ∙ ap (λ (l : List (ObjectId × ℕ)). Some (lines l)) (seven_listed image w.objects (w.mounted (assured scope keeps image kept (contents, mounts))) contents mounts alone)

long_seven : long_lines ((record { 0 = 7 }, 2) ∷ []) ≡ codes "7 2 2\n"
unfolding digits one_level_length
long_seven = refl

json_seven : json_listed ((record { 0 = 7 }, 2) ∷ []) ≡ codes "{\"objects\":[{\"object\":7,\"length\":2,\"blocks\":2}]}\n"
unfolding digits one_level_length
json_seven = refl

-- the report of a pool of this name begins with it
begins : (name rest more : List ℕ) → name ≡ codes "tank"
    → (codes "{\"name\":\"" ++ (name ++ (codes "\",\"guid\":\"" ++ rest))) ++ more ≡ codes "{\"name\":\"tank\",\"guid\":\"" ++ (rest ++ more)
begins name rest more tank = ap (λ (n : List ℕ). (codes "{\"name\":\"" ++ (n ++ (codes "\",\"guid\":\"" ++ rest))) ++ more) tank

module _ (scope : Scope) (keeps : Type 0) (image : List ℕ) (before after : Option (List ℕ)) (kept : keeps) (contents : Contents) (mounts : MountsTo image contents) (empty : before ≡ Some []) where
  pub long_told : finite.entries contents.objects ≡ (7, 10 ∷ 11 ∷ []) ∷ [] → WritesObjects scope keeps image long_lines before after → after ≡ Some (codes "7 2 2\n")
  long_told alone w = two_told long_lines scope keeps image before after kept contents mounts alone empty w ∙ ap Some long_seven

  pub json_told : finite.entries contents.objects ≡ (7, 10 ∷ 11 ∷ []) ∷ [] → WritesObjects scope keeps image json_listed before after
      → after ≡ Some (codes "{\"objects\":[{\"object\":7,\"length\":2,\"blocks\":2}]}\n")
  json_told alone w = two_told json_listed scope keeps image before after kept contents mounts alone empty w ∙ ap Some json_seven

module _ (keeps : Type 0) (image : List ℕ) (before after : Option (List ℕ)) (kept : keeps) (contents : Contents) (mounts : MountsTo image contents) (empty : before ≡ Some []) where
  -- what is printed of a pool of this name begins with it
  pub json_named : contents.name ≡ codes "tank" → WritesInspected keeps image json_shown before after
      → (rest : List ℕ) × (after ≡ Some (codes "{\"name\":\"tank\",\"guid\":\"" ++ rest))
  json_named tank w =
      let told = told_of image w.inspected (w.mounted kept) contents mounts in
      let is = appended after (json_shown w.inspected) (subst (λ (b : Option (List ℕ)). Appends b after (json_shown w.inspected)) empty w.writes) in
      (_, is ∙ ap Some (begins w.inspected.name _ (json_objects w.inspected.objects.items) (told.name_is ∙ tank)))

-- the lines of a new pool of 8 MiB
new_space : space_lines unit.Powers (record { total = 3670016; used = 0; free = 3670016; available = 3604480 }) ≡ codes "total 3.5M\nused 0\nfree 3.5M\navailable 3.4M\n"
unfolding digits
new_space = refl

pub space_told : (before after : Option (List ℕ)) → before ≡ Some []
    → Appends before after (space_lines unit.Powers (record { total = 3670016; used = 0; free = 3670016; available = 3604480 }))
    → after ≡ Some (codes "total 3.5M\nused 0\nfree 3.5M\navailable 3.4M\n")
space_told before after empty writes =
    appended after _ (subst (λ (b : Option (List ℕ)). Appends b after (space_lines unit.Powers (record { total = 3670016; used = 0; free = 3670016; available = 3604480 }))) empty writes)
    ∙ ap Some new_space

-- the lines of the space of a pool of 896 blocks begin with it
begins_with_total : (total : ℕ) (rest : List ℕ) → total ≡ 3670016 → codes "total " ++ (amount_text unit.Powers total ++ (codes "\nused " ++ rest)) ≡ codes "total 3.5M\nused " ++ rest
unfolding digits
begins_with_total total rest is = ap (λ (n : ℕ). codes "total " ++ (amount_text unit.Powers n ++ (codes "\nused " ++ rest))) is

pub total_told : (keeps : Type 0) (image : List ℕ) (before after : Option (List ℕ)) → keeps → length image ≡ 8388608 → before ≡ Some []
    → WritesInspected keeps image (pool_space_lines unit.Powers) before after → (rest : List ℕ) × (after ≡ Some (codes "total 3.5M\nused " ++ rest))
total_told keeps image before after kept long empty w =
    let (contents, told, mounted) = w.mounted kept in
    let i = w.inspected in
    let blocks : i.blocks ≡ 896 = sym mounted.blocks ∙ ap block_count long in
    let is = appended after (pool_space_lines unit.Powers i) (subst (λ (b : Option (List ℕ)). Appends b after (pool_space_lines unit.Powers i)) empty w.writes) in
    (_, is ∙ ap Some (begins_with_total (block_bytes i.blocks) _ (ap block_bytes blocks)))

-- the labels begin with that of number 0
zeroth_label : (config rest : List ℕ) → codes "{\"labels\":[" ++ ((codes "{\"label\":" ++ (decimal 0 ++ (codes ",\"config\":" ++ config))) ++ rest)
    ≡ codes "{\"labels\":[{\"label\":0,\"config\":" ++ (config ++ rest)
unfolding digits
zeroth_label config rest = refl

pub labels_told : {keeps : Type 0} {image : List ℕ} (before after : Option (List ℕ)) → before ≡ Some [] → PrintsLabels keeps image before after → (rest : List ℕ) × (after ≡ Some (codes "{\"labels\":[{\"label\":0,\"config\":" ++ rest))
labels_told before after empty p =
    let text : List ℕ = json_four p.zeroth p.first p.second p.third p.active in
    let config : List ℕ = json_config p.zeroth.config ++ (codes "," ++ (json_ring p.zeroth.count p.zeroth.highest ++ codes "}")) in
    let rest : List ℕ = codes "," ++ (json_found_label 1 p.first ++ (codes "," ++ (json_found_label 2 p.second
    ++ (codes "," ++ (json_found_label 3 p.third ++ (codes "],\"active\":" ++ (json_active p.active ++ codes "}\n"))))))) in
    (config ++ rest, appended after text (subst (λ (b : Option (List ℕ)). Appends b after text) empty p.writes) ∙ ap Some (zeroth_label config rest))

-- so do their lines
zeroth_line : (config rest : List ℕ) → (codes "label " ++ (decimal 0 ++ (codes " config " ++ config))) ++ rest ≡ codes "label 0 config " ++ (config ++ rest)
unfolding digits
zeroth_line config rest = refl

pub lines_told : {keeps : Type 0} {image : List ℕ} (before after : Option (List ℕ)) → before ≡ Some [] → WritesFour keeps image before after → (rest : List ℕ) × (after ≡ Some (codes "label 0 config " ++ rest))
lines_told before after empty p =
    let text : List ℕ = four_texts p.zeroth p.first p.second p.third p.active in
    let config : List ℕ = config_text p.zeroth.config ++ (codes "\nlabel " ++ (decimal 0 ++ (codes " uberblocks " ++ (ring_text p.zeroth.count p.zeroth.highest ++ codes "\n")))) in
    let rest : List ℕ = found_text 1 p.first ++ (found_text 2 p.second ++ (found_text 3 p.third ++ (codes "active " ++ (active_text p.active ++ codes "\n")))) in
    (config ++ rest, appended after text (subst (λ (b : Option (List ℕ)). Appends b after text) empty p.writes) ∙ ap Some (zeroth_line config rest))

-- of an image without an uberblock none is active, and the last line says so
none_active : (image : List ℕ) (active : Active) → HasNoUberblock image → IsActiveFound image active → active ≡ uberblock.Missing
none_active image uberblock.Missing none found = refl
none_active image (uberblock.Unplaced group) none found = absurd found
none_active image (uberblock.Found group label) none (u, a, same, here) = absurd (none a.label u a.in_range a.stands)

last_line : (a b c d last : List ℕ) → a ++ (b ++ (c ++ (d ++ last))) ≡ (a ++ (b ++ (c ++ d))) ++ last
last_line a b c d last =
    ap (λ (l : List ℕ). a ++ (b ++ l)) (sym (append_assoc c d last)) ∙ ap (λ (l : List ℕ). a ++ l) (sym (append_assoc b (c ++ d) last)) ∙ sym (append_assoc a (b ++ (c ++ d)) last)

pub none_active_told : {keeps : Type 0} {image : List ℕ} (before after : Option (List ℕ)) → before ≡ Some [] → keeps → HasNoUberblock image → WritesFour keeps image before after → (front : List ℕ) × (after ≡ Some (front ++ codes "active none\n"))
none_active_told {image = image} before after empty keeps none p =
    let text : List ℕ = four_texts p.zeroth p.first p.second p.third p.active in
    let missing : p.active ≡ uberblock.Missing = none_active image p.active none (p.found keeps).of_active in
    let front : List ℕ = found_text 0 p.zeroth ++ (found_text 1 p.first ++ (found_text 2 p.second ++ found_text 3 p.third)) in (
      front,
      appended after text (subst (λ (b : Option (List ℕ)). Appends b after text) empty p.writes) ∙ ap Some (
          last_line (found_text 0 p.zeroth) (found_text 1 p.first) (found_text 2 p.second) (found_text 3 p.third) (codes "active " ++ (active_text p.active ++ codes "\n"))
          ∙ ap (λ (a : Active). front ++ (codes "active " ++ (active_text a ++ codes "\n"))) missing
          ),
    )

-- no uberblock is counted if no slot holds one
pub none_counted : (slots : ℕ → List ℕ) (k count highest : ℕ) → ((slot : ℕ) → slot < k → HoldsNoUberblock (slots slot)) → AreCounted slots k count highest → count ≡ 0
unfolding AreCounted
none_counted slots zero count highest none counted = counted.0
none_counted slots (suc k) count highest none (before, top, counted, inl (u, held, more, higher)) = absurd (none k (omega arith) u held)
none_counted slots (suc k) count highest none (before, top, counted, inr (lacks, same, still)) = same ∙ none_counted slots k before top (λ slot below. none slot (omega (arith, below))) counted
