use Rattle.script_sessions.proofs.Asked.{looked_at}
use Rattle.script_sessions.proofs.pool_caller.fail_behind.Goals as goal

pub returns-clause-own : goal.returns-clause-own
returns-clause-own g c = (looked_at _ _ c.leave.result _ c.fail.new.self c.requires.own c.requires.only c.handle_after-handle.ensures c.fail.ensures c.leave.ensures).own

pub returns-clause-only : goal.returns-clause-only
returns-clause-only g c = (looked_at _ _ c.leave.result _ c.fail.new.self c.requires.own c.requires.only c.handle_after-handle.ensures c.fail.ensures c.leave.ensures).only

pub returns-clause-same_view : goal.returns-clause-same_view
returns-clause-same_view g c = (looked_at _ _ c.leave.result _ c.fail.new.self c.requires.own c.requires.only c.handle_after-handle.ensures c.fail.ensures c.leave.ensures).same_view

pub returns-clause-looked : goal.returns-clause-looked
returns-clause-looked g c = record { before = _; after = c.fail.new.self; back = c.handle_after-handle.ensures; looked = c.fail.ensures; left = c.leave.ensures }
