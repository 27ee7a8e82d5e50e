-- What is printed for an import, and which answers are refusals.
use Rattle.std.specs.Prelude.{ℕ, ◌+◌, Bool, true, false}
use Rattle.base.specs.declared.names.Group.{Group}
use Rattle.base.specs.declared.step.Reply.TheVariants.{Refused}
use Rattle.script_lines.specs.declared.answer.Answer.{Answer}
use Rattle.script_lines.specs.declared.answer.Answer.TheVariants as answer

-- what is printed of an import that synced this group and replayed so many log records
abbrev pub imported_answer : Group → ℕ → Answer
imported_answer synced records = answer.Imported synced (record { 0 = synced.0 + 1 }) records

-- whether an answer is a refusal
abbrev pub is_refusal_answer : Answer → Bool
is_refusal_answer (answer.Reply (Refused e)) = true
is_refusal_answer _ = false
