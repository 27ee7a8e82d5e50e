-- What is left of a pool goes on over imports, steps and crashes.
use Rattle.std.proofs.Common.{◌≡◌, ◌∙◌, inl, inr, ℕ, ◌++◌, List, [], ◌∷◌, length, refl, sym, ap, subst, append_assoc}
use Rattle.std.specs.Prelude.{IfErr, IfOk, OnErr, Ok, Err}
use Rattle.std.specs.Global.{Vec}
use Rattle.std.proofs.Math.Logic.{∥∥₁_map}
use Rattle.std.proofs.lemmas.List.{append-nil, nil_from_length}
use Rattle.std.specs.FinMap as finite
use Rattle.std.specs.Ordering.{nat_cmp}
use Rattle.base.specs.kept.Imports.{is_dirty_max_allowed}
use Rattle.base.specs.declared.step.Step as declared_step
use Rattle.base.specs.declared.step.Reply as declared_reply
use Rattle.base.specs.kept.CrashRule.{KeepsOwn}
use Rattle.base.specs.kept.Own.{IsOwnWith}
use Rattle.base.specs.kept.LeftDisks.{GoesOnFrom, IsLeft}
use Rattle.base.specs.declared.error.PoolError.{PoolError}
use Rattle.base.specs.declared.error.PoolError.TheVariants.{Damaged, NoMemory, NoPool, NoSpace, TooMany}
use Rattle.base.specs.declared.refused.RefusedCalls.{RefusedCalls}
use Rattle.base.specs.declared.piece.Piece.{Piece}
use Rattle.base.specs.disk.Calls.{with_refusal}
use Rattle.base.specs.disk.Crashes.{crash_image}
use Rattle.base.specs.disk.Disk.{Disk, MayLeave, bytes_of, certain, moments}
use Rattle.base.specs.disk.Fairness.{IsFairOn}
use Rattle.base.specs.history.Contents.{Contents}
use Rattle.base.specs.history.Past.{Past, new_past}
use Rattle.base.specs.steps.Shown.{Shown}
use Rattle.base.specs.steps.Explains.{IsLeftBy}
use Rattle.base.proofs.crash.LeftDisks.{IsLeftOnceFlushed, IsStillLeft, import_left, left_crashed, left_flushed}
use Rattle.base.proofs.disk.Moments.{joins}
use Rattle.device_model.specs.declared.device.SectorDevice.{Ghosts}
use Rattle.contents.specs.ContentsShown.{contents_of}
use Rattle.import_replay.specs.Creations.{IsNewPool}
use Rattle.import_replay.specs.ImportRefusals.{CanImport, FindsOwn, IsImportRefusal, IsReason}
use Rattle.mounted.specs.ShownMounted.{shown_of_import}
use Rattle.import_replay.specs.OwnCreations.{first_contents}
use Rattle.import_replay.specs.RunStarts.{StartsRun}
use Rattle.mounted.specs.declared.mounted.Mounted.{Mounted}
use Rattle.pool_core.specs.declared.state.PoolState.{PoolState}
use Rattle.pool_core.specs.Calls.{counted_in_turn}
use Rattle.pool_core.specs.KeptSafe.{IsKeptSafe, SafeOn, disk_of, on_disk}
use Rattle.pool_core.specs.States.{shown, told}
use Rattle.import_replay.proofs.OwnCreations.{new_left}
use Rattle.pool_core.proofs.crash.LeftDisks.{steps_go_on, steps_same_create}
use Rattle.pool_core.proofs.crash.SafeMoments.{kept_own}
use Rattle.round_trip.specs.Crashes.{Answer, ComesTo, ComesToFrom, ComesToOfNew, GoesAsRound, GoesOnAs, IsEndOf, IsFairEnd, IsOverFor, IsRefusedFrom, IsRefusedOfNew, IsRefusedOn, IsRound, IsRoundOver, Outcome, counted_in}
use Rattle.round_trip.specs.Rounds.{IsOpened}
use Rattle.round_trip.specs.declared.crashes.End.{End}
use Rattle.round_trip.specs.declared.crashes.End.TheVariants.{Crash, GivenUp}
use Rattle.round_trip.specs.declared.crashes.Round.{Round}

-- the later past is of the same create
same_create : (dirty_max moment : ℕ) (ss : List declared_step.Step) (answer : Answer) (past later : Past) (disk ended : Disk) → IsRoundOver dirty_max moment ss answer past later disk ended → later.created ≡ past.created
same_create dirty_max moment ss (Ok replies) past later disk ended over =
    let s = over.steps in
    ap (λ (p : Past). p.created) (sym s.past_is) ∙ steps_same_create ss replies.items s.start s.end s.made ∙ ap (λ (p : Past). p.created) s.begins
same_create dirty_max moment ss (Err e) past later disk ended over = ap (λ (p : Past). p.created) over.steps.0

-- want of memory says nothing of the bytes, and comes to sound pools too
no_memory_on : (disk : Disk) (e : PoolError) → e ≡ NoMemory → IsRefusedOn disk e
no_memory_on disk e none = (
  record {
    no_pool = λ is. let h : NoMemory ≡ NoPool = sym none ∙ is in cc;
    damaged = λ kind address is. let h : NoMemory ≡ Damaged kind address = sym none ∙ is in cc;
    too_many = λ is. let h : NoMemory ≡ TooMany = sym none ∙ is in cc;
    no_space = λ is. let h : NoMemory ≡ NoSpace = sym none ∙ is in cc;
  },
  record {
    not_missing = λ is. let h : NoMemory ≡ NoPool = sym none ∙ is in cc;
    not_full = λ is. let h : NoMemory ≡ NoSpace = sym none ∙ is in cc;
    not_damaged = λ kind address is. let h : NoMemory ≡ Damaged kind address = sym none ∙ is in cc;
  },
)

-- an import of what a run left is refused for what the bytes say, and as one of a sound pool
refused_on : (past : Past) (old : Disk) (e : PoolError) → IsLeft past old → FindsOwn old e → IsReason (bytes_of old.now) e → IsRefusedOn old e
refused_on past old e was own reason = let f = left_flushed past old was in (reason, own past.created f.guid f.contents f.own)

-- The steps after an import that was not refused are those of a round.
module _ {Dev : Type 0} {G : Ghosts Dev} (dirty_max : ℕ) (past : Past) (old : Disk) (m : Mounted) (state : PoolState Dev G) (f : IsLeftOnceFlushed past old) (begun : IsStillLeft past old (disk_of state))
    (kept : IsKeptSafe (on_disk state (new_past f.contents past.created dirty_max))) (shows : shown state ≡ shown_of_import m) (contents_are : contents_of m.contents ≡ f.contents)
    (moment : ℕ) (opened : IsOpened (bytes_of old.now) (told state).now moment) where
  abbrev first : Past
  first = new_past f.contents past.created dirty_max

  -- the steps replied
  replied : (ss : List declared_step.Step) (end : PoolState Dev G) (replies : Vec declared_reply.Reply) → SafeOn ss replies.items state end → (later : Past) × IsRoundOver dirty_max moment ss (Ok replies) past later old (disk_of end) × IsLeft later (disk_of end)
  replied ss end replies safe =
      let run = safe first kept in
      let made = run.1 in (
        run.0,
        record {
          goes_on = joins (λ m. Unit {0}) old (disk_of state) (disk_of end) begun.goes_on (steps_go_on ss replies.items (on_disk state first) (on_disk end run.0) made);
          steps = record {
            base = f.contents;
            left = f.left;
            start = on_disk state first;
            began_on = begun.goes_on;
            kept = kept;
            opened = opened;
            at_first = record { mounted = m; shown_is = shows };
            begins = refl;
            shows = ap (λ (s : Shown). s.contents) shows ∙ contents_are;
            end = on_disk end run.0;
            made = made;
            past_is = refl;
            disk_is = refl;
          };
        },
        ((shown end).guid, kept_own (on_disk end run.0) run.2),
      )

  -- there was no memory for the replies
  not_made : (ss : List declared_step.Step) (end : PoolState Dev G) (e : PoolError) → e ≡ NoMemory → end ≡ state → (later : Past) × IsRoundOver dirty_max moment ss (Err e) past later old (disk_of end) × IsLeft later (disk_of end)
  not_made ss end e none same =
      subst (λ (x : PoolState Dev G). (later : Past) × IsRoundOver dirty_max moment ss (Err e) past later old (disk_of x) × IsLeft later (disk_of x)) (sym same)
      (past, record { goes_on = begun.goes_on; steps = (refl, no_memory_on old e none) }, begun.left)

  pub over : (ss : List declared_step.Step) (end : PoolState Dev G) (answer : Answer) → IfOk answer (λ replies. SafeOn ss replies.items state end) → IfErr answer (λ e. e ≡ NoMemory) → OnErr answer (end ≡ state)
      → (later : Past) × IsRoundOver dirty_max moment ss answer past later old (disk_of end) × IsLeft later (disk_of end)
  over ss end (Ok replies) safe none same = replied ss end replies safe
  over ss end (Err e) safe none same = not_made ss end e none same

-- an import that was refused is a round without steps
pub refused_over : (dirty_max moment : ℕ) (ss : List declared_step.Step) (e : PoolError) (past : Past) (old new : Disk) → IsLeft past old → KeepsOwn old new → FindsOwn old e → IsReason (bytes_of old.now) e → IsOverFor dirty_max moment ss (Err e) past old new
refused_over dirty_max moment ss e past old new was kept own reason =
    let l = import_left past old new was kept in
    ∣ (past, record { goes_on = l.goes_on; steps = (refl, refused_on past old e was own reason) }, l.left) ∣₁

-- the refused calls of a device after an import and a list of steps, of which there was no memory for the replies or
-- each counted its own
pub run_counted : {S : Type 0} (calls : S → RefusedCalls) (answer : Answer) (old new : S) → IfOk answer (λ replies. calls new ≡ counted_in_turn replies.items (calls old)) → IfErr answer (λ e. e ≡ NoMemory)
    → OnErr answer (new ≡ old) → calls new ≡ counted_in answer (calls old)
run_counted calls (Ok replies) old new count refused kept = count
run_counted calls (Err e) old new count refused kept = subst (λ (x : PoolError). calls new ≡ with_refusal x (calls old)) (sym refused) (ap calls kept)

-- a list of steps is refused as its import may be
pub run_refused : (size dirty_max : ℕ) (answer : Answer) → CanImport size dirty_max → IfErr answer (λ e. e ≡ NoMemory) → IfErr answer (IsImportRefusal size (is_dirty_max_allowed dirty_max))
run_refused size dirty_max (Ok replies) can refused = tt
run_refused size dirty_max (Err e) can refused = subst (λ (x : PoolError). IsImportRefusal size (is_dirty_max_allowed dirty_max) x) (sym refused) (can, tt)

-- a fault that was planned leaves the disk of a round
pub over_planned : (round : Round) (answer : Answer) (past : Past) (start planned ended : Disk) → planned ≡ start → IsLeft past start
    → ((p : Past) → IsLeft p planned → IsOverFor round.dirty_max round.moment round.steps.items answer p planned ended) → IsOverFor round.dirty_max round.moment round.steps.items answer past start ended
over_planned round answer past start planned ended same was over =
    subst (λ (d : Disk). IsOverFor round.dirty_max round.moment round.steps.items answer past d ended) same (over past (subst (λ (d : Disk). IsLeft past d) (sym same) was))

-- a round with its end
pub crashed_round : (round : Round) (answer : Answer) (past : Past) (old ended next : Disk) (pieces : Vec Piece) → round.end ≡ Crash pieces → MayLeave ended.now (crash_image pieces.items ended.now)
    → next ≡ certain (crash_image pieces.items ended.now) ended → IsOverFor round.dirty_max round.moment round.steps.items answer past old ended → IsRound round answer past old next
crashed_round round answer past old ended next pieces is may next_is over = ∥∥₁_map over (λ o. record {
  later = o.0;
  ended = ended;
  over = o.1;
  end = subst (λ (e : End). IsEndOf e ended next) (sym is) next_is;
  goes_on = λ fair.
      let fair_crash : IsFairOn ended past.created (crash_image pieces.items ended.now) = subst (λ (e : End). IsFairEnd e past.created ended) is fair in
      subst (λ (d : Disk). IsLeft o.0 d) (sym next_is)
      (left_crashed o.0 ended (crash_image pieces.items ended.now) may (subst (λ (t : ℕ). IsFairOn ended t (crash_image pieces.items ended.now)) (sym (same_create round.dirty_max round.moment round.steps.items answer past o.0 old ended o.1)) fair_crash) o.2);
})

pub given_round : (round : Round) (answer : Answer) (past : Past) (old ended : Disk) → round.end ≡ GivenUp → IsOverFor round.dirty_max round.moment round.steps.items answer past old ended → IsRound round answer past old ended
given_round round answer past old ended is over = ∥∥₁_map over (λ o. record {
  later = o.0;
  ended = ended;
  over = o.1;
  end = subst (λ (e : End). IsEndOf e ended ended) (sym is) refl;
  goes_on = λ fair. o.2;
})

-- the import after the last round finds what is left
pub last_import : (dirty_max : ℕ) (past : Past) (old new : Disk) (m : Mounted) → IsLeft past old → KeepsOwn old new → StartsRun old dirty_max new m → (moment : ℕ) → IsOpened (bytes_of old.now) (bytes_of new.now) moment
    → ComesTo (Ok (contents_of m.contents, new)) [] [] past old
last_import dirty_max past old new m was kept starts_run moment opened =
    let f = left_flushed past old was in
    let start = starts_run past.created f.guid f.contents f.own in
    ∣ (subst (λ (c : Contents). IsLeftBy past c) (sym start.contents_are) f.left, (import_left past old new was kept).goes_on, (moment, opened)) ∣₁

-- or it is refused, for no reason that a sound pool doesn't have
pub last_refusal : (past : Past) (old : Disk) (e : PoolError) → IsLeft past old → FindsOwn old e → IsReason (bytes_of old.now) e → ComesTo (Err e) [] [] past old
last_refusal past old e was own reason = ∣ refused_on past old e was own reason ∣₁

-- by one round the answers go on
pub one_more : (items : List Round) (round : Round) (left : List Round) (answers more : List Answer) (answer : Answer) (all : List Round) (first old next : Disk)
    → items ≡ round ∷ left → more ≡ answers ++ answer ∷ [] → ((past : Past) → IsLeft past old → IsRound round answer past old next)
    → GoesOnAs all items answers first old → GoesOnAs all left more first next
one_more items round left answers more answer all first old next these now gone onward rest outcome after =
    let whole : ComesToFrom outcome items (answer ∷ rest) old =
    rw these (λ past was. ∥∥₁_map (gone past was) (λ (g : GoesAsRound round answer past old next (λ later. IsLeft later next)). (
      next,
      record { later = g.later; ended = g.ended; over = g.over; end = g.end; goes_on = λ fair. after g.later (g.goes_on fair) },
    ))) in
    rw (now, append_assoc) (onward (answer ∷ rest) outcome whole)

-- where no round is left, they come to what the import after them came to
pub all_over : (all left : List Round) (answers : List Answer) (first now : Disk) (outcome : Outcome) → length left ≡ 0 → GoesOnAs all left answers first now → ComesToFrom outcome [] [] now → ComesToFrom outcome all answers first
all_over all left answers first now outcome none onward last = rw (append-nil answers) at (onward [] outcome (rw (nil_from_length left none) last))

-- a new pool, and the rounds after its create
pub comes_behind : (outcome : Outcome) (name : List ℕ) (guid moment : ℕ) (rounds : List Round) (answers : List Answer) (start made : Disk) → GoesOnFrom start made → IsNewPool (bytes_of made.now) name guid moment
    → IsOwnWith made (moments start) guid (first_contents name) → ComesToFrom outcome rounds answers made → ComesToOfNew outcome name guid moment rounds answers start
comes_behind outcome name guid moment rounds answers start made on written own comes =
    let new : Contents = first_contents name in
    let past : Past = new_past new (moments start) 0 in
    record { new = new; is_new = record { name_is = refl; empty = λ n. finite.get-empty {X = List ℕ} nat_cmp n }; made = made; goes_on = on; written = written; comes = comes past (new_left name guid start made own) }

pub refused_behind : (name : List ℕ) (guid moment : ℕ) (rounds : List Round) (start made : Disk) (e : PoolError) → GoesOnFrom start made → IsNewPool (bytes_of made.now) name guid moment
    → IsOwnWith made (moments start) guid (first_contents name) → IsRefusedFrom rounds made e → IsRefusedOfNew name guid moment rounds start e
refused_behind name guid moment rounds start made e on written own (inl none) = inl none
refused_behind name guid moment rounds start made e on written own (inr (answers, comes)) = inr (answers, comes_behind (Err e) name guid moment rounds answers start made on written own comes)
