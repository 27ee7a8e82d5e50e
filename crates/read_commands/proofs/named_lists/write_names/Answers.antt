use Rattle.std.proofs.Common.{◌<◌, ℕ, List, Bor, ap, arith, get_or, length, subst}
use Rattle.std.specs.Io.KnownBytes.{Appends}
use Rattle.base.specs.declared.names.ObjectId.{ObjectId}
use Rattle.read_commands.specs.NamedLines.{line_by}
use Rattle.read_commands.proofs.LinesWritten.{line_written, next_line}
use Rattle.read_commands.proofs.named_lists.write_names.Goals as goal

pub loop-object-preserved : goal.loop-object-preserved
loop-object-preserved g c =
    let (front, written, left) = c.loop-object.invariant in
    let now = g.W.Write.contents c.loop-object.out in
    let after = g.W.Write.contents c.write_object.new.out in
    let table = c.args.list.now.table in
    let i = c.loop-object.object-index in
    let none : ObjectId × ℕ = (record { 0 = 0 }, 0) in
    let same = c.deref-object-items.ensures.value in
    let there : i < length c.args.list.now.objects.items = omega (arith, c.loop-object-test.true, ap length same) in
    let object = get_or c.deref-object-items.result.now i none in
    next_line (line_by table) c.args.list.now.objects.items i none (g.W.Write.contents c.args.out.now) now after front there written left
    (subst (λ (l : List (ObjectId × ℕ)). Appends now after (line_by table (get_or l i none))) same
    (line_written (λ (n : Bor (List ℕ)). n.now) table object.0 object.1 c.name_of-name.result now after c.name_of-name.ensures.name c.name_of-name.ensures.none c.in-Ok.ensures.named c.in-Ok.ensures.unnamed))
