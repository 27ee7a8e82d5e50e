-- The line of a close makes that step of the pool that is there, and a bad one leaves what is there.
use Rattle.std.proofs.Common.{◌≡◌, ◌∙◌, ℕ, inl, inr, refl, ap, subst, rules}
use Rattle.std.specs.Prelude.{◌⊎◌, true, false, None, Option, Some, Result, Ok, Err, IfErr, IfOk, IfSome, IsErr, IsOk, codes}
use Rattle.std.specs.Str.{IsUtf8}
use Rattle.std.proofs.lemmas.Bool.{false≢true}
use Rattle.base.specs.declared.error.PoolError.TheVariants as error
use Rattle.base.specs.declared.step.Reply.TheVariants.{Refused}
use Rattle.base.specs.declared.step.Step.TheVariants.{CloseGroup}
use Rattle.device_model.specs.MemState.{MemState}
use Rattle.device_model.specs.declared.fault.Fault.{Fault}
use Rattle.script_lines.proofs.Readings.{close_read}
use Rattle.script_lines.specs.Commands.{ReadsLine}
use Rattle.script_lines.specs.declared.answer.Answer.{Answer}
use Rattle.script_lines.specs.declared.answer.Answer.TheVariants.{Reply}
use Rattle.script_lines.specs.declared.command.Command.{Command}
use Rattle.script_lines.specs.declared.command.Command.TheVariants.{Pool}
use Rattle.script_lines.specs.declared.command.LineError.{LineError}
use Rattle.script_lines.specs.declared.command.LineError.TheVariants.{BadCommand, NoMemory}
use Rattle.script_lines.specs.declared.command.PoolCommand.TheVariants as pool
use Rattle.scripts.specs.Lines.{RunsBadLine, RunsLine}
use Rattle.scripts.specs.Places.{AsksIn, has_pool, has_what_it_needs, is_crash}
use Rattle.scripts.specs.Sessions.{Does, Runs}
use Rattle.scripts.specs.declared.mounted_pool.MountedPool as mounted
use Rattle.scripts.specs.declared.session.BadCommand as bad_command
use Rattle.scripts.specs.declared.session.Session.{Session}

abbrev close : Command
close = Pool (pool.Step CloseGroup)

same_command : (asked : Command) (r : Result Command LineError) → r ≡ Ok asked → (r ≡ Err NoMemory) ⊎ (r ≡ Ok close) → asked ≡ close
same_command asked r is (inl none) = search rules
same_command asked r is (inr read) = cc

close_of : (asked : Command) → ReadsLine (codes "close") (Ok asked) → asked ≡ close
close_of asked reads = same_command asked (Ok asked) refl (close_read (Ok asked) reads)

never_bad : (r : Result Command LineError) → r ≡ Err BadCommand → (r ≡ Err NoMemory) ⊎ (r ≡ Ok close) → ⊥
never_bad r is (inl none) = search rules
never_bad r is (inr read) = search rules

is_text : IsUtf8 (codes "close")
unfolding lib.Utf8.encode
is_text = (codes "close", (refl, refl))

module _ {R P : Type 0} (G : mounted.Ghosts P MemState R) (Plans : Fault → ℕ → P → P → Type 0) (old new : Session R MemState P) where
  -- if there is a pool, it is no bad line
  pub close_is_good : (e : bad_command.BadCommand) → has_pool old.place ≡ true → RunsBadLine (Runs G Plans) (codes "close") old e new → ⊥
  close_is_good e there (inl (inl no_text, same)) = no_text is_text
  close_is_good e there (inl (inr reads, same)) = never_bad (Err BadCommand) refl (close_read (Err BadCommand) reads)
  close_is_good e there (inr (asked, reads, runs)) =
      let answered : false ≡ has_pool old.place = subst (λ a. is_crash a ≡ false → false ≡ has_what_it_needs a old.place) (close_of asked reads) runs.answered refl in
      false≢true (answered ∙ there)

  pub close_closes : (told : Answer) → RunsLine (Runs G Plans) (codes "close") old told new
      → ((told ≡ Reply (Refused error.NoMemory)) × (new ≡ old)) ⊎ AsksIn (G.asks (pool.Step CloseGroup) old.moment) old.place told new.place
  close_closes told (inl none) = inl none
  close_closes told (inr (asked, reads, runs)) = inr (subst (λ a. Does G Plans a old (Ok told) new) (close_of asked reads) runs.done)

  pub bad_close_leaves : (e : bad_command.BadCommand) → RunsBadLine (Runs G Plans) (codes "close") old e new → new.place ≡ old.place
  bad_close_leaves e (inl (bad, same)) = ap (λ s. s.place) same
  bad_close_leaves e (inr (asked, reads, runs)) = subst (λ a. Does G Plans a old (Err e) new) (close_of asked reads) runs.done

  pub good_line : (told : Result (Option Answer) bad_command.BadCommand) → has_pool old.place ≡ true → IfErr told (λ e. RunsBadLine (Runs G Plans) (codes "close") old e new) → IsOk told
  good_line (Ok told) there bad = search rules
  good_line (Err e) there bad = absurd (close_is_good e there bad)

  pub closed_line : (told : Result (Option Answer) bad_command.BadCommand) → IfOk told (λ a. IfSome a (λ answer. RunsLine (Runs G Plans) (codes "close") old answer new))
      → IfOk told (λ a. IfSome a (λ answer.
      ((answer ≡ Reply (Refused error.NoMemory)) × (new ≡ old)) ⊎ AsksIn (G.asks (pool.Step CloseGroup) old.moment) old.place answer new.place))
  closed_line (Ok (Some told)) runs = close_closes told runs
  closed_line (Ok None) runs = runs
  closed_line (Err e) runs = runs

  pub left_line : (told : Result (Option Answer) bad_command.BadCommand) → IfErr told (λ e. RunsBadLine (Runs G Plans) (codes "close") old e new) → IsErr told → new.place ≡ old.place
  left_line (Ok told) bad err = search rules
  left_line (Err e) bad err = bad_close_leaves e bad
