use Rattle.pool_tables_clients.proofs.locks.no_piece_is_told.Goals as goal

pub returns : goal.returns
returns c = rw c.requires at c.pieces.ensures.pieces
