use Rattle.std.proofs.Common.{◌≡◌, ◌<◌, ◌+◌, ℕ, List, ap, arith, length, subst, sym, ◌∙◌}
use Rattle.std.proofs.lemmas.List.{length_push}
use Rattle.base.specs.declared.names.ObjectId.{ObjectId}
use Rattle.pool_core.specs.States.{shown}
use Rattle.pool_threads.proofs.ListedObjects.{IsListedTo, below_most, length_told, listed_absent, listed_present, value_of}
use Rattle.pool_threads.proofs.objects.list_objects.Goals as goal
use Rattle.pool_threads.proofs.objects.list_objects.Goals.{in-Ok, in_default}

pub loop-number-preserved : goal.loop-number-preserved
loop-number-preserved g c =
    let contents = (shown c.args.state.now).contents in
    let n : ℕ = c.loop-number.number in
    let list : List (ObjectId × ℕ) = c.loop-number.list.items in
    let i = c.loop-number.invariant in
    let low = c.loop-number-test.true in
    let counted : c.len.result ≡ length list = omega (arith, c.len.ensures, c.loop-number.list.ok.0) in
    let fits : length list < c.args.most = below_most (length list) c.args.most c.len.result counted i.1 c.if-len-most.false in
    let told = length_told (record { 0 = n }) c.length.result (shown c.args.state.now) c.length.ensures.step low (c.is_suspended.ensures.running c.if-is_suspended.false) in
    elim c.match-length.branch [
      | in-Ok w ↦
          let one : ObjectId × ℕ = (record { 0 = n }, w.in-Ok.length) in
          let longer = ap (λ (l : List (ObjectId × ℕ)). length l) w.push_reserved.ensures.items ∙ length_push list one in
          rw w.list-is (
            subst (λ (l : List (ObjectId × ℕ)). IsListedTo c.args.from.0 c.args.most contents l (n + 1)) (sym w.push_reserved.ensures.items)
                (listed_present c.args.from.0 c.args.most contents list n w.in-Ok.length low fits (told ∙ ap value_of w.in-Ok.is) i.0),
            omega (arith, fits, longer),
            omega (arith, i.2, longer),
            omega (arith, i.3, w.push_reserved.ensures.capacity),
          )
      | in_default w ↦ rw w.list-is (
        listed_absent c.args.from.0 c.args.most contents list n low (told ∙ ap value_of w.in_default.is) i.0,
        i.1,
        omega (arith, i.2),
        i.3,
      )
    ]
