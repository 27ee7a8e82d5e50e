-- What contracts say of a seat.
use Rattle.std.specs.Prelude.{◌≡◌, ◌≢◌, ℕ, ◌+◌, List, [], ◌∷◌, ◌++◌, None}
use Rattle.atomic_table.specs.Seated.{TableId}
use Rattle.word_lock.specs.declared.lock.WordLock.{WordLock}
use Rattle.word_lock.specs.declared.rule.Opening.{Opening}
use Rattle.word_lock.specs.declared.rule.Turn.{Turn}
use Rattle.word_lock.specs.declared.seat.Seat.{Seat}
use Rattle.word_lock.specs.declared.source.SeatSource.{SeatSource}
use Rattle.word_lock.specs.Kept.{away, holding}
use Rattle.word_lock.specs.Turns.{turn, IsTurnHistory}

module _ {T R A V : Type 0} where
  abbrev pub lock_table : WordLock T R A V → TableId
  lock_table l = l.table.shared.table_id

  -- the view that the lock opened with
  abbrev pub opening : WordLock T R A V → V
  opening l = l.table.shared.key.value.view

  -- a source makes seats of this lock, beside the splits
  abbrev pub HasSource : WordLock T R A V → Type 0
  HasSource l = l.table.shared.key.value.kin ≢ 0

module _ {T R V : Type 0} where
  -- what the seat has seen
  abbrev pub seen : Seat T R V → V
  seen s = s.inside.me.0.seen

  -- the turns that the seat has had with the lock, the latest last
  abbrev pub turns : Seat T R V → List (Turn V)
  turns s = s.inside.me.0.turns

  -- the turns of the seats that it has joined, and of those that they had joined
  abbrev pub taken : Seat T R V → List (Turn V)
  taken s = s.inside.me.0.taken

  -- The seat's number: 0 while it is the only one that the lock ever had, 1 at a new seat of a source. Each split adds
  -- 1, and the new seat has the same; a join adds the other's. Nothing makes it less.
  abbrev pub kin : Seat T R V → ℕ
  kin s = s.inside.me.0.kin

  -- the table of the lock that the seat is for
  abbrev pub seat_table : Seat T R V → TableId
  seat_table s = s.inside.table_id

  abbrev pub seat_number : Seat T R V → ℕ
  seat_number s = s.inside.id

  abbrev pub IsSameSeat : Seat T R V → Seat T R V → Type 0
  IsSameSeat s t = (seat_table t ≡ seat_table s) × (seat_number t ≡ seat_number s)

  -- the seat does not have the lock
  abbrev pub IsIdle : Seat T R V → Type 0
  IsIdle s = s.inside.me ≡ (away (seen s) (turns s) (taken s) (kin s), [])

  -- the seat has the lock, and the value is out
  abbrev pub IsHolding : Seat T R V → Type 0
  IsHolding s = s.inside.me ≡ (holding (seen s) (turns s) (taken s) (kin s), (0, None) ∷ [])

  -- nothing of the seat has changed
  abbrev pub IsAsBefore : Seat T R V → Seat T R V → Type 0
  IsAsBefore s t = IsSameSeat s t × (t.inside.me ≡ s.inside.me)

  -- no seat was split off it, and it has joined none
  abbrev pub HasMetNone : Seat T R V → Seat T R V → Type 0
  HasMetNone s t = (kin t ≡ kin s) × (taken t ≡ taken s)

  -- one more seat was split off it, and nothing else of it has changed
  abbrev pub HasSplit : Seat T R V → Seat T R V → Type 0
  HasSplit s t = IsSameSeat s t × IsIdle t × (seen t ≡ seen s) × (turns t ≡ turns s) × (taken t ≡ taken s) × (kin t ≡ kin s + 1)

  -- the seat has had one turn more, which left this view, and has met no other
  abbrev pub HasTurned : Seat T R V → Seat T R V → V → Type 0
  HasTurned s t v = (turns t ≡ turns s ++ turn (seen s) v ∷ []) × HasMetNone s t

  -- The seat has got the lock with this value, which a view explains that goes on from what the seat had seen. It has
  -- met no other. The only seat that the lock ever had takes just what it had seen.
  abbrev pub HasTaken : (V → V → Type 0) → (V → T → Type 0) → Seat T R V → Seat T R V → T → Type 0
  HasTaken grows explains s t x = IsHolding t × (turns t ≡ turns s) × grows (seen s) (seen t) × explains (seen t) x × HasMetNone s t × (kin s ≡ 0 → seen t ≡ seen s)

  -- the seat has taken in what another had seen
  abbrev pub HasJoined : (V → V → Type 0) → Seat T R V → Seat T R V → Seat T R V → Type 0
  HasJoined grows s other t = IsIdle t × grows (seen s) (seen t) × grows (seen other) (seen t)

  -- the table of the lock that the source is for
  abbrev pub source_table : SeatSource T R V → TableId
  source_table c = seat_table c.first.value

module _ {T R A V : Type 0} where
  -- an idle seat of this lock, with this number, which has had no turn
  abbrev pub IsSeatOf : WordLock T R A V → Seat T R V → ℕ → Type 0
  IsSeatOf l s k = (seat_table s ≡ lock_table l) × IsIdle s × (turns s ≡ []) × (taken s ≡ []) × (kin s ≡ k)

  -- a new seat of a source
  abbrev pub IsNewSeat : WordLock T R A V → Seat T R V → Type 0
  IsNewSeat l s = IsSeatOf l s 1

  -- the first seat of a lock, and so far the only one
  abbrev pub IsFirstSeat : WordLock T R A V → Seat T R V → Type 0
  IsFirstSeat l s = IsSeatOf l s 0

  -- the lock opened so, and this is the seat that it opened with
  abbrev pub IsOpeningSeat : Opening V → WordLock T R A V → Seat T R V → Type 0
  IsOpeningSeat o l s = (l.table.shared.key.value ≡ o) × IsSeatOf l s o.kin × (seen s ≡ o.view)

  -- the source makes seats of this lock
  abbrev pub IsSourceOf : WordLock T R A V → SeatSource T R V → Type 0
  IsSourceOf l c = (source_table c ≡ lock_table l) × HasSource l

  -- A value that the lock leaves: a view explains it that goes on from what the seat has seen, and the turns of all
  -- seats lead to this view. The only seat that the lock ever had has seen just this view.
  abbrev pub IsLastValue : (V → V → Type 0) → (V → T → Type 0) → WordLock T R A V → Seat T R V → T → Type 0
  IsLastValue grows explains l s x = (v : V) × explains v x × grows (seen s) v × IsTurnHistory grows (opening l) (seat_number s) (turns s) v × (kin s ≡ 0 → v ≡ seen s)
