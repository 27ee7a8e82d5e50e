use Rattle.serving.proofs.clients.answers.a_serve_only_answers_frames_and_syncs.Goals as goal

pub returns : goal.returns
returns g c = let s = c.serve.ensures.served in (s.1, s.3.served, s.2, s.3.answers, s.3.syncs)
