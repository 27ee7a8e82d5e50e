use Rattle.frames.proofs.FramesRead.{frame_again}
use Rattle.frames.proofs.laws.frames_read_back.Goals as goal

pub returns : goal.returns
returns c = frame_again
