use Rattle.frames.proofs.FramesRead.{frames_agree}
use Rattle.frames.proofs.laws.frames_agree.Goals as goal

pub returns : goal.returns
returns c = frames_agree
