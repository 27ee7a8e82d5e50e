-- Steps that leave the bytes of the device, the tree and the running sync as they were.
use Rattle.std.proofs.Common.{◌≡◌, ◌∙◌, Bool, true, false, refl, ap, sym}
use Rattle.std.specs.Prelude.{Result, Ok, Err, option_map}
use Rattle.std.proofs.lemmas.Bool.{false≢true}
use Rattle.base.specs.declared.error.PoolError.{PoolError}
use Rattle.base.specs.declared.step.Reply as declared_reply
use Rattle.base.specs.declared.step.Reply.TheVariants as reply
use Rattle.base.specs.disk.Calls.{counted}
use Rattle.base.specs.disk.Disk.{Disk, bytes_of}
use Rattle.base.specs.steps.Runs.{reply_of}
use Rattle.base.specs.kept.Stored.{is_turn}
use Rattle.device_model.specs.declared.device.SectorDevice.{Ghosts}
use Rattle.tree_blocks.specs.declared.tree.Tree.{Tree}
use Rattle.tree_blocks.specs.Pointers.{pointers_of}
use Rattle.pool_core.specs.declared.state.PoolState.{PoolState}
use Rattle.pool_core.specs.Calls.{answer_in}
use Rattle.pool_tables.specs.Told.{Leads, ShownPool, new_tree_of}
use Rattle.pool_tables.specs.KeptTrees.{IsOfNoDevice}
use Rattle.pool_tables.specs.declared.pool.PoolTables.{PoolTables}
use Rattle.pool_core.specs.States.{CountsRefused, MakesNoCall, MovesNothing, OnlyReadsOf, device_of, refused_calls, tables_of, told}
use Rattle.pool_tables.proofs.StillSteps.{leads_as}

-- whether a reply is neither a refusal, nor says of a sync that it was started, goes on or is done, nor of a log block
-- that it was written
abbrev pub is_still : declared_reply.Reply → Bool
is_still (reply.Refused e) = false
is_still (reply.Syncing group) = false
is_still (reply.Synced group) = false
is_still reply.More = false
is_still (reply.Logged count) = false
is_still _ = true

-- the bytes, the pointers and what the running sync makes are as before
abbrev pub IsStill : ShownPool → ShownPool → Type 0
IsStill old new = (new.now ≡ old.now) × (new.pointers ≡ old.pointers) × (new.running ≡ old.running)

still_leads : (r : declared_reply.Reply) (old new : ShownPool) → is_still r ≡ true → IsStill old new → Leads r old new
still_leads reply.More old new is same = absurd (false≢true is)
still_leads (reply.Logged count) old new is same = absurd (false≢true is)
still_leads (reply.Syncing group) old new is same = absurd (false≢true is)
still_leads (reply.Synced group) old new is same = absurd (false≢true is)
still_leads _ old new is same = λ past later. same

-- no call is counted with it
pub answer_in-still : (r : declared_reply.Reply) → is_still r ≡ true → answer_in r ≡ Ok tt
answer_in-still (reply.Refused e) is = absurd (false≢true is)
answer_in-still _ is = refl

-- no sync was started with it, nor is one done, nor with a refusal
no_turn : (r : declared_reply.Reply) → is_still r ≡ true → is_turn r ≡ false
no_turn (reply.Syncing group) is = absurd (false≢true is)
no_turn (reply.Synced group) is = absurd (false≢true is)
no_turn _ is = refl

pub still_turn : {A : Type 0} (make : A → declared_reply.Reply) (answer : Result A PoolError) (given : declared_reply.Reply) → ((x : A) → is_still (make x) ≡ true)
    → given ≡ reply_of make answer → is_turn given ≡ false
still_turn make (Ok x) given quiet is = ap is_turn is ∙ no_turn (make x) (quiet x)
still_turn make (Err e) given quiet is = ap is_turn is

module _ {Dev : Type 0} {G : Ghosts Dev} (old new : PoolState Dev G) where
  still : {A : Type 0} (answer : Result A PoolError) → MovesNothing answer old new → IsStill (told old) (told new)
  still answer moves = (
    ap (λ (d : Dev). bytes_of (G.disk d).now) moves.no_call.device,
    ap (λ (t : Tree). pointers_of t) moves.kept.tree,
    λ k. option_map (new_tree_of (moves.kept.tree k)) (moves.kept.sync k),
  )

  -- a step after which these are as before leads on, with the reply that is made of its answer
  stays_replied : {A : Type 0} (make : A → declared_reply.Reply) (answer : Result A PoolError) (given : declared_reply.Reply) → ((x : A) → is_still (make x) ≡ true)
      → given ≡ reply_of make answer → IsStill (told old) (told new) → Leads given (told old) (told new)
  stays_replied make (Ok x) given quiet is same = leads_as (make x) given (told old) (told new) (sym is) (still_leads (make x) (told old) (told new) (quiet x) same)
  stays_replied make (Err e) given quiet is same = leads_as (reply.Refused e) given (told old) (told new) (sym is) (λ past later. same)

  -- so does one that moves nothing
  pub still_replied : {A : Type 0} (make : A → declared_reply.Reply) (answer : Result A PoolError) (given : declared_reply.Reply) → ((x : A) → is_still (make x) ≡ true)
      → given ≡ reply_of make answer → MovesNothing answer old new → Leads given (told old) (told new)
  still_replied make answer given quiet is moves = stays_replied make answer given quiet is (still answer moves)

  -- and one that keeps the tables, and what a read of the device gives
  pub read_replied : {A : Type 0} (make : A → declared_reply.Reply) (answer : Result A PoolError) (given : declared_reply.Reply) → ((x : A) → is_still (make x) ≡ true)
      → given ≡ reply_of make answer → tables_of new ≡ tables_of old → G.disk (device_of new) ≡ G.disk (device_of old) → Leads given (told old) (told new)
  read_replied make answer given quiet is tables disk =
      stays_replied make answer given quiet is (
        ap (λ (d : Disk). bytes_of d.now) disk,
        ap (λ (p : PoolTables). pointers_of p.synced.tree) tables,
        ap (λ (p : PoolTables). option_map (new_tree_of p.synced.tree) p.sync) tables,
      )

  -- a step that only reads counts the call that was refused
  pub read_counts : {A : Type 0} (make : A → declared_reply.Reply) (answer : Result A PoolError) → ((x : A) → answer_in (make x) ≡ Ok tt) → OnlyReadsOf answer old new → CountsRefused (answer_in (reply_of make answer)) old new
  read_counts {A} make answer plain reads = reads.count ∙ sym (of_answer answer)
    where
      of_answer : (r : Result A PoolError) → counted (answer_in (reply_of make r)) (refused_calls old) ≡ counted r (refused_calls old)
      of_answer (Ok x) = ap (λ (a : Result (Unit {0}) PoolError). counted a (refused_calls old)) (plain x)
      of_answer (Err e) = refl

  -- a step without a call counts nothing
  pub no_call_counts : {A : Type 0} (make : A → declared_reply.Reply) (answer : Result A PoolError) (given : declared_reply.Reply) → ((x : A) → answer_in (make x) ≡ Ok tt)
      → given ≡ reply_of make answer → MakesNoCall answer old new → CountsRefused (answer_in given) old new
  no_call_counts {A} make answer given plain is no_call =
      ap (λ (d : Dev). G.refused d) no_call.device ∙ sym (ap (λ (r : declared_reply.Reply). counted (answer_in r) (refused_calls old)) is ∙ counts_none answer no_call.own)
    where
      counts_none : (r : Result A PoolError) → IsOfNoDevice r → counted (answer_in (reply_of make r)) (refused_calls old) ≡ refused_calls old
      counts_none (Ok x) own = ap (λ (a : Result (Unit {0}) PoolError). counted a (refused_calls old)) (plain x)
      counts_none (Err e) own = own (refused_calls old)
