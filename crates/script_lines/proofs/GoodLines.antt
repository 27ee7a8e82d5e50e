-- A begin that sets a name and a commit of two contents are refused only for want of memory.
use Rattle.std.proofs.Common.{◌≡◌, ◌^◌, ◌<◌, ◌∷◌, [], ℕ, zero, suc, List, inl, inr, refl, sym, subst, rules, arith}
use Rattle.std.specs.Prelude.{Result, Ok, Err, IfErr, codes, map}
use Rattle.std.specs.Borrow.{Bor}
use Rattle.std.proofs.lemmas.List.Elements.{All-from_recursion}
use Rattle.script_lines.specs.Commands.{ReadsLine, ReadsWords}
use Rattle.script_lines.specs.Copies.{IsContent}
use Rattle.script_lines.specs.Numbers.{IsNumberBelow}
use Rattle.script_lines.specs.Shapes.{IsShapesRefusal, ReadsShape, ReadsShapeWord}
use Rattle.script_lines.specs.Words.{ArePartsOf, Words}
use Rattle.script_lines.specs.declared.command.Command.{Command}
use Rattle.script_lines.specs.declared.command.LineError.{LineError}
use Rattle.script_lines.specs.declared.command.LineError.TheVariants.{NoMemory}

one_is_number : (limit : ℕ) → 1 < limit → IsNumberBelow limit (codes "1")
one_is_number limit low = (search rules, low)

is_name : (parts : Words) (e : LineError) → map (λ w. w.now) parts ≡ codes "n" ∷ codes "4" ∷ [] → ReadsShape parts (Err e) → ⊥
is_name [] e cut read = search rules
is_name (p ∷ []) e cut read = search rules
is_name (p ∷ q ∷ []) e cut read =
    let name : p.now ≡ codes "n" = cc in
    let number : q.now ≡ codes "4" = cc in
    let four : IsNumberBelow (2 ^ 64) (codes "4") = search rules in
    read.set_name (refl, name) (subst (λ w. IsNumberBelow (2 ^ 64) w) (sym number) four)
is_name (p ∷ q ∷ z ∷ more) e cut read = search rules

name_refused : (text : List ℕ) (e : LineError) → text ≡ codes "n:4" → ReadsShapeWord text (Err e) → e ≡ NoMemory
name_refused text e is (inl none) = cc
name_refused text e is (inr (parts, cut, read, form)) = absurd (is_name parts e (subst (λ t. ArePartsOf 58 t parts) is cut) read)

shape_refused : (x : Bor (List ℕ)) (e : LineError) → x.now ≡ codes "n:4" → IsShapesRefusal (x ∷ []) e → e ≡ NoMemory
shape_refused x e is (inl none) = none
shape_refused x e is (inr (zero, low, read)) = name_refused x.now e is read
shape_refused x e is (inr (suc i, low, read)) = absurd (omega (arith, low))

module _ (r : Result Command LineError) where
  abbrev OnlyMemory : Type 0
  OnlyMemory = IfErr r (λ e. e ≡ NoMemory)

  none_left : r ≡ Err NoMemory → OnlyMemory
  none_left none = subst (λ (q : Result Command LineError). IfErr q (λ e. e ≡ NoMemory)) (sym none) refl

shapes_refused : (r : Result Command LineError) (x : Bor (List ℕ)) → x.now ≡ codes "n:4" → IfErr r (IsShapesRefusal (x ∷ [])) → OnlyMemory r
shapes_refused (Ok asked) x is refused = refused
shapes_refused (Err e) x is refused = shape_refused x e is refused

module _ (r : Result Command LineError) where
  of_begin : (words : Words) → map (λ w. w.now) words ≡ codes "begin" ∷ codes "1" ∷ codes "n:4" ∷ [] → ReadsWords words r → OnlyMemory r
  of_begin [] parts reads = search rules
  of_begin (w ∷ []) parts reads = search rules
  of_begin (w ∷ v ∷ []) parts reads = search rules
  of_begin (w ∷ v ∷ x ∷ []) parts reads =
      let first : w.now ≡ codes "begin" = cc in
      let second : v.now ≡ codes "1" = cc in
      let third : x.now ≡ codes "n:4" = cc in
      let owner : IsNumberBelow (2 ^ 32) v.now = subst (λ n. IsNumberBelow (2 ^ 32) n) (sym second) (one_is_number (2 ^ 32) (omega arith)) in
      shapes_refused r x third (reads.device.pool.step.begin_refused (omega arith, first) owner)
  of_begin (w ∷ v ∷ x ∷ y ∷ more) parts reads = search rules

  pub begin_read : ReadsLine (codes "begin 1 n:4") r → OnlyMemory r
  begin_read (inl none) = none_left r none
  begin_read (inr (words, parts, reads, form)) = of_begin words parts reads

  of_commit : (words : Words) → map (λ w. w.now) words ≡ codes "commit" ∷ codes "1" ∷ codes "ab" ∷ codes "c" ∷ [] → ReadsWords words r → OnlyMemory r
  of_commit [] parts reads = search rules
  of_commit (w ∷ []) parts reads = search rules
  of_commit (w ∷ v ∷ []) parts reads = search rules
  of_commit (w ∷ v ∷ x ∷ []) parts reads = search rules
  of_commit (w ∷ v ∷ x ∷ y ∷ []) parts reads =
      let first : w.now ≡ codes "commit" = cc in
      let second : v.now ≡ codes "1" = cc in
      let third : x.now ≡ codes "ab" = cc in
      let fourth : y.now ≡ codes "c" = cc in
      let tx : IsNumberBelow (2 ^ 64) v.now = subst (λ n. IsNumberBelow (2 ^ 64) n) (sym second) (one_is_number (2 ^ 64) (omega arith)) in
      let ab : IsContent (codes "ab") = (codes "ab", (refl, (λ e. search rules), (λ _. refl))) in
      let c : IsContent (codes "c") = (codes "c", (refl, (λ e. search rules), (λ _. refl))) in
      let x_is : IsContent x.now = subst (λ w. IsContent w) (sym third) ab in
      let y_is : IsContent y.now = subst (λ w. IsContent w) (sym fourth) c in
      reads.device.pool.commit_read (omega arith, first) tx (All-from_recursion (λ w. IsContent w.now) (x ∷ y ∷ []) (x_is, (y_is, tt)))
  of_commit (w ∷ v ∷ x ∷ y ∷ z ∷ more) parts reads = search rules

  pub commit_read : ReadsLine (codes "commit 1 ab c") r → OnlyMemory r
  commit_read (inl none) = none_left r none
  commit_read (inr (words, parts, reads, form)) = of_commit words parts reads
