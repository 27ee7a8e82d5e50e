use Rattle.std.proofs.Common.{inl, refl}
use Rattle.scripts.proofs.KeptRuns.{crash_keeps}
use Rattle.scripts.proofs.session.Session+R+MemDevice+P.crash.Goals as goal

pub returns-clause-crashes : goal.returns-clause-crashes
returns-clause-crashes g c = inl (
  c.in-Some.device,
  c.in-Some.ensures.device,
  (
    c.crash.ensures.crashes,
    crash_keeps g.P.MountedPool g.met.P.MountedPool.carries c.args.pieces.now c.args.self.now.place c.crash.new.self c.in-Some.device c.crash.result (c.in-Some.ensures.kept refl) c.crash.ensures.crashes c.crash.ensures.possible,
  ),
)
