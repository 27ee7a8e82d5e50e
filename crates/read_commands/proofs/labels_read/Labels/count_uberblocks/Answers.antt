use Rattle.std.proofs.Common.{◌≡◌, ℕ, List, arith, subst}
use Rattle.std.specs.Prelude.{IfNone, IfSome}
use Rattle.base.specs.formats.Uberblocks.{IsUberblock}
use Rattle.uberblocks.specs.Slots.{HoldsNoUberblock, fields_of}
use Rattle.read_commands.specs.ReadLabels.{AreCounted, arrays_of, slots_read}
use Rattle.read_commands.proofs.ReadLabels.{counted_more, few_more, none_so_far}
use Rattle.read_commands.proofs.labels_read.Labels.count_uberblocks.Goals as goal

pub loop-position-init : goal.loop-position-init
loop-position-init c = record { within = omega arith; few = omega arith; counted = none_so_far (slots_read (arrays_of c.args.self.now) c.args.label) }

pub loop-position-preserved : goal.loop-position-preserved
loop-position-preserved c =
    let i = c.loop-position.invariant in
    let before = c.loop-position.counted in
    let low = c.loop-position-test.true in
    record {
      within = omega (arith, low);
      few = few_more c.uberblock_at.result before.0 c.loop-position.position c.count_with-counted.result before.1.0 i.few c.count_with-counted.ensures.some c.count_with-counted.ensures.none;
      counted = counted_more (slots_read (arrays_of c.args.self.now) c.args.label) c.loop-position.position before.0 before.1.0 c.count_with-counted.result c.uberblock_at.result (subst (λ (l : List ℕ). IfSome c.uberblock_at.result (λ u. IsUberblock (slots_read l c.args.label c.loop-position.position) (fields_of u))) c.deref.ensures.value c.uberblock_at.ensures.some)
          (subst (λ (l : List ℕ). IfNone c.uberblock_at.result (HoldsNoUberblock (slots_read l c.args.label c.loop-position.position))) c.deref.ensures.value c.uberblock_at.ensures.none) c.count_with-counted.ensures.some c.count_with-counted.ensures.none i.counted;
    }

pub returns : goal.returns
returns c =
    let i = c.loop-position.invariant in
    let past = c.loop-position-test.false in
    let within = i.within in
    let all : c.loop-position.position ≡ 128 = omega (arith, past, within) in
    record { counted = subst (λ n. AreCounted (slots_read (arrays_of c.args.self.now) c.args.label) n c.loop-position.counted.0 c.loop-position.counted.1.0) all i.counted }
