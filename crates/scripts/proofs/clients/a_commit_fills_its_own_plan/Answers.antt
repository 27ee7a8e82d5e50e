use Rattle.scripts.proofs.clients.a_commit_fills_its_own_plan.Goals as goal

pub returns : goal.returns
returns g c = rw (c.requires.bytes, c.requires.plan) at c.run_pool_command.ensures
