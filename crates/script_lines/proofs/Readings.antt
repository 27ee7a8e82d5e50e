-- A line of one word is the command of that word, and the words of a commit have their bytes.
use Rattle.std.proofs.Common.{◌≡◌, ◌∷◌, [], ℕ, List, inl, inr, refl, sym, subst, rules, arith}
use Rattle.std.specs.Prelude.{◌⊎◌, Result, Ok, Err, codes, map}
use Rattle.std.specs.Borrow.{Bor}
use Rattle.std.specs.Global.{Vec}
use Rattle.base.specs.declared.names.TxId.{TxId}
use Rattle.base.specs.declared.step.Step.TheVariants as step
use Rattle.script_lines.specs.Commands.{IsCommitOf, ReadsLine, ReadsWords}
use Rattle.script_lines.specs.Copies.{AreContentsOf, IsContentOf}
use Rattle.script_lines.specs.Words.{HasForm, Words}
use Rattle.script_lines.specs.declared.command.Command.{Command}
use Rattle.script_lines.specs.declared.command.Command.TheVariants.{Pool}
use Rattle.script_lines.specs.declared.command.LineError.{LineError}
use Rattle.script_lines.specs.declared.command.LineError.TheVariants.{NoMemory}
use Rattle.script_lines.specs.declared.command.PoolCommand.{PoolCommand}
use Rattle.script_lines.specs.declared.command.PoolCommand.TheVariants as pool

one_word : (name : List ℕ) (words : Words) → map (λ w. w.now) words ≡ name ∷ [] → HasForm words name 1
one_word name [] parts = search rules
one_word name (w ∷ []) parts = (refl, cc)
one_word name (w ∷ v ∷ rest) parts = search rules

-- a line of a close asks for it, or there is no memory
pub close_read : (r : Result Command LineError) → ReadsLine (codes "close") r → (r ≡ Err NoMemory) ⊎ (r ≡ Ok (Pool (pool.Step step.CloseGroup)))
close_read r (inl none) = inl none
close_read r (inr (words, parts, reads, form)) = inr (reads.device.pool.step.close (one_word (codes "close") words parts))

two_contents : (x y : Bor (List ℕ)) (contents : List (List ℕ)) → x.now ≡ codes "ab" → y.now ≡ codes "c" → AreContentsOf (x ∷ y ∷ []) contents → contents ≡ codes "ab" ∷ codes "c" ∷ []
two_contents x y [] one two are = absurd are
two_contents x y (p ∷ []) one two are = absurd are.1
two_contents x y (p ∷ q ∷ []) one two are =
    let p_is : p ≡ codes "ab" = (subst (λ w. IsContentOf w p) one are.0).2 (search rules) in
    let q_is : q ≡ codes "c" = (subst (λ w. IsContentOf w q) two are.1.0).2 (search rules) in
    cc
two_contents x y (p ∷ q ∷ z ∷ more) one two are = absurd are.1.1

module _ (tx : TxId) (contents : Vec (List ℕ)) where
  of_commit : (asked : PoolCommand) (number : List ℕ) (x y : Bor (List ℕ)) → Pool (pool.Commit tx contents) ≡ Pool asked → IsCommitOf number (x ∷ y ∷ []) asked → AreContentsOf (x ∷ y ∷ []) contents.items
  of_commit asked number x y same is =
      let commit : pool.Commit tx contents ≡ asked = cc in
      (subst (λ a. IsCommitOf number (x ∷ y ∷ []) a) (sym commit) is).3

  of_words : (words : Words) → map (λ w. w.now) words ≡ codes "commit" ∷ codes "1" ∷ codes "ab" ∷ codes "c" ∷ [] → ReadsWords words (Ok (Pool (pool.Commit tx contents)))
      → contents.items ≡ codes "ab" ∷ codes "c" ∷ []
  of_words [] parts reads = search rules
  of_words (w ∷ []) parts reads = search rules
  of_words (w ∷ v ∷ []) parts reads = search rules
  of_words (w ∷ v ∷ x ∷ []) parts reads = search rules
  of_words (w ∷ v ∷ x ∷ y ∷ []) parts reads =
      let first : w.now ≡ codes "commit" = cc in
      let third : x.now ≡ codes "ab" = cc in
      let fourth : y.now ≡ codes "c" = cc in
      let read = reads.device.pool.commit (omega arith, first) in
      two_contents x y contents.items third fourth (of_commit read.0 v.now x y read.1 read.2)
  of_words (w ∷ v ∷ x ∷ y ∷ z ∷ more) parts reads = search rules

  -- a commit line of two words has the bytes of both
  pub commit_read : ReadsLine (codes "commit 1 ab c") (Ok (Pool (pool.Commit tx contents))) → contents.items ≡ codes "ab" ∷ codes "c" ∷ []
  commit_read (inl none) = search rules
  commit_read (inr (words, parts, reads, form)) = of_words words parts reads
