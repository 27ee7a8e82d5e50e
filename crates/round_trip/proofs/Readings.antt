-- What a caller reads off rounds and plays: each step has a reply, each round an answer, and a pool that a run left is
-- found.
use Rattle.std.proofs.Common.{◌≡◌, ◌∙◌, inl, inr, ℕ, suc, List, [], ◌∷◌, length, refl, sym, ap, subst}
use Rattle.std.specs.Coded.{Coded-set, coded_ℕ}
use Rattle.std.proofs.lemmas.List.Elements.{All-head, All-tail}
use Rattle.std.specs.Prelude.{◌≢◌, All, IfErr, IfOk, Ok, Err}
use Rattle.std.proofs.Math.Logic.{∥∥₁_elim, ∥∥₁_map}
use Rattle.base.specs.declared.step.Step as declared_step
use Rattle.base.specs.declared.step.Reply as declared_reply
use Rattle.base.specs.declared.error.PoolError.{PoolError}
use Rattle.base.specs.declared.error.PoolError.TheVariants.{NoMemory, NoPool}
use Rattle.base.specs.disk.Disk.{Disk, bytes_of}
use Rattle.base.specs.history.Past.{Past}
use Rattle.base.specs.steps.Runs.{Run}
use Rattle.pool_core.specs.KeptSafe.{IsSafeStep, OnDisk}
use Rattle.round_trip.specs.Rounds.{HasMoment}
use Rattle.base.specs.kept.LeftDisks.{GoesOnFrom, IsLeft}
use Rattle.round_trip.specs.Crashes.{Answer, ComesTo, ComesToOfNew, IsFairEnd, IsOverFor, IsRefusedFrom, Outcome}
use Rattle.round_trip.specs.declared.crashes.End.{End}
use Rattle.round_trip.specs.declared.crashes.End.TheVariants.{GivenUp}
use Rattle.round_trip.specs.declared.crashes.Round.{Round}

-- a run has a reply to each step
pub length-run : {S : Type 0} (Is : declared_step.Step → declared_reply.Reply → S → S → Type 0) (ss : List declared_step.Step) (rs : List declared_reply.Reply) (old new : S) → Run Is ss rs old new → length rs ≡ length ss
length-run Is [] [] old new run = refl
length-run Is (s ∷ ss) (r ∷ rs) old new run = ap suc (length-run Is ss rs run.0 new run.2)
length-run Is [] (r ∷ rs) old new run = absurd run
length-run Is (s ∷ ss) [] old new run = absurd run

-- so have the steps of a round that was not refused
pub length-over : (dirty_max moment : ℕ) (ss : List declared_step.Step) (answer : Answer) (past : Past) (disk ended : Disk) → IsOverFor dirty_max moment ss answer past disk ended
    → IfOk answer (λ replies. length replies.items ≡ length ss)
length-over dirty_max moment ss (Ok replies) past disk ended over =
    ∥∥₁_elim over (Coded-set coded_ℕ (length replies.items) (length ss)) (λ o. length-run _ ss replies.items _ _ o.1.steps.made)
length-over dirty_max moment ss (Err e) past disk ended over = tt

-- and they begin on the disk that its import left
pub begin_on_import : (dirty_max moment : ℕ) (ss : List declared_step.Step) (answer : Answer) (past : Past) (disk ended : Disk) → IsOverFor dirty_max moment ss answer past disk ended
    → IfOk answer (λ replies. ∥ ((first : OnDisk) × (last : OnDisk) × GoesOnFrom disk first.disk × HasMoment (bytes_of first.disk.now) moment × Run IsSafeStep ss replies.items first last × (last.disk ≡ ended)) ∥₁)
begin_on_import dirty_max moment ss (Ok replies) past disk ended over = ∥∥₁_map over (λ o.
    let s = o.1.steps in
    let has : HasMoment (bytes_of s.start.disk.now) moment = subst (λ (now : List ℕ). HasMoment now moment) s.kept.same_bytes s.opened.after in
    (s.start, s.end, s.began_on, has, s.made, s.disk_is))
begin_on_import dirty_max moment ss (Err e) past disk ended over = tt

-- and a refused one is not refused for want of a pool
pub pool_found : (dirty_max moment : ℕ) (ss : List declared_step.Step) (answer : Answer) (past : Past) (disk ended : Disk) → IsOverFor dirty_max moment ss answer past disk ended
    → IfErr answer (λ e. e ≢ NoPool)
pool_found dirty_max moment ss (Ok replies) past disk ended over = tt
pool_found dirty_max moment ss (Err e) past disk ended over = λ is. ∥∥₁_elim over (λ a b. absurd a) (λ o. o.1.steps.1.1.not_missing is)

-- rounds that give the device up have an answer each
pub length-comes : (outcome : Outcome) (rounds : List Round) (answers : List Answer) (past : Past) (disk : Disk) → All (λ (r : Round). r.end ≡ GivenUp) rounds → ComesTo outcome rounds answers past disk
    → length answers ≡ length rounds
length-comes outcome [] [] past disk ends comes = refl
length-comes outcome (round ∷ rounds) (answer ∷ answers) past disk ends comes = ∥∥₁_elim comes (Coded-set coded_ℕ (suc (length answers)) (suc (length rounds))) (λ g.
    let fair : IsFairEnd round.end past.created g.1.ended = subst (λ (e : End). IsFairEnd e past.created g.1.ended) (sym (All-head (λ (r : Round). r.end ≡ GivenUp) round rounds ends)) tt in
    ap suc (length-comes outcome rounds answers g.1.later g.0 (All-tail (λ (r : Round). r.end ≡ GivenUp) round rounds ends) (g.1.goes_on fair)))
length-comes outcome [] (answer ∷ answers) past disk ends comes = absurd comes
length-comes outcome (round ∷ rounds) [] past disk ends comes = absurd comes

-- so have those after the create of a pool
pub length-comes_of_new : (outcome : Outcome) (name : List ℕ) (guid moment : ℕ) (rounds : List Round) (answers : List Answer) (start : Disk) → All (λ (r : Round). r.end ≡ GivenUp) rounds
    → ComesToOfNew outcome name guid moment rounds answers start → length answers ≡ length rounds
length-comes_of_new outcome name guid moment rounds answers start ends comes = length-comes outcome rounds answers _ comes.made ends comes.comes

-- what no rounds come to is the refusal of the last import
not_missing-behind_none : (answers : List Answer) (disk : Disk) (e : PoolError) (past : Past) → ComesTo (Err e) [] answers past disk → e ≡ NoPool → ⊥
not_missing-behind_none [] disk e past came is = ∥∥₁_elim came (λ a b. absurd a) (λ refused. refused.1.not_missing is)
not_missing-behind_none (answer ∷ answers) disk e past came is = came

-- so where there are no rounds, a pool that a run left is found
pub found_behind_none : (rounds : List Round) (disk : Disk) (e : PoolError) (past : Past) → rounds ≡ [] → IsLeft past disk → IsRefusedFrom rounds disk e → e ≢ NoPool
found_behind_none rounds disk e past none was (inl no_memory) is = let h : NoMemory ≡ NoPool = sym no_memory ∙ is in cc
found_behind_none rounds disk e past none was (inr (answers, comes)) is =
    not_missing-behind_none answers disk e past (subst (λ (rs : List Round). ComesTo (Err e) rs answers past disk) none (comes past was)) is
