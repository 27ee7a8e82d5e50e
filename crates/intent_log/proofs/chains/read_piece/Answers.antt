use Rattle.std.proofs.Common.{◌∙◌, ◌<◌, List, ℕ, ap, subst}
use Rattle.base.specs.disk.Disk.{bytes_of}
use Rattle.base.specs.formats.Chain.{LogBlock}
use Rattle.base.specs.formats.Versions.{number_of_version}
use Rattle.intent_log.specs.Chains.{BeginsNone, HasNoLong, HasNoPieceAt, HasNoneOfVersion, IsBlockAt, IsLongAt, IsPieceAt, IsShortOf, MayBegin}
use Rattle.intent_log.proofs.LongRecords.{long_piece, none_long, none_short, none_weaker, none_without_block, short_piece, some_weaker}
use Rattle.intent_log.proofs.chains.read_piece.Goals as goal

pub returns-in_default-clause-none : goal.returns-in_default-clause-none
returns-in_default-clause-none g c = λ keeps.
    none_without_block (bytes_of (g.D.SectorDevice.disk c.args.device.now).now) c.args.frame.now c.args.header.now (rw c.in_default.is at (c.in_ok-block.ensures.none keeps))

pub returns-in_default-long_size-clause-read : goal.returns-in_default-long_size-clause-read
returns-in_default-long_size-clause-read g c = λ keeps.
    let image : List ℕ = bytes_of (g.D.SectorDevice.disk c.args.device.now).now in
    let h = c.args.header.now in
    let at : IsBlockAt image c.args.frame.now h c.in-Some.block = rw c.in-Some.is at (c.in_ok-block.ensures.read keeps) in
    some_weaker (IsShortOf h.version c.in-Some.block) (IsPieceAt image c.args.frame.now h) c.read_short.result c.read_short.ensures.read (λ p is. short_piece image c.args.frame.now h c.in-Some.block p at is)

pub returns-in_default-long_size-clause-none : goal.returns-in_default-long_size-clause-none
returns-in_default-long_size-clause-none g c = λ keeps.
    let image : List ℕ = bytes_of (g.D.SectorDevice.disk c.args.device.now).now in
    let h = c.args.header.now in
    let at : IsBlockAt image c.args.frame.now h c.in-Some.block = rw c.in-Some.is at (c.in_ok-block.ensures.read keeps) in
    let used = c.as_slice.ensures.value ∙ ap (λ (b : LogBlock). b.used) c.block.view_is in
    let longs : 1 < number_of_version h.version → BeginsNone c.in-Some.block.used =
    subst (λ (l : List ℕ). 1 < number_of_version h.version → BeginsNone l) used (rw c.in_default-long_size.is at c.long_size.ensures.none) in
    none_weaker (HasNoneOfVersion h.version c.in-Some.block.used) (HasNoPieceAt image c.args.frame.now h) c.read_short.result c.read_short.ensures.none
    (λ none. none_short image c.args.frame.now h c.in-Some.block at none longs)

pub returns-clause-read : goal.returns-clause-read
returns-clause-read g c = λ keeps.
    let image : List ℕ = bytes_of (g.D.SectorDevice.disk c.args.device.now).now in
    let h = c.args.header.now in
    let at : IsBlockAt image c.args.frame.now h c.in-Some.block = rw c.in-Some.is at (c.in_ok-block.ensures.read keeps) in
    let call = rw (c.in_ok-block.ensures.reads.disk keeps) at (c.read_parts.ensures.read keeps) in
    let two = rw c.in-Some-long_size.is at c.long_size.ensures.new in
    some_weaker (IsLongAt image c.args.frame.now h) (IsPieceAt image c.args.frame.now h) c.read_parts.result (call at) (λ p is. long_piece image c.args.frame.now h p two is)

pub returns-clause-none : goal.returns-clause-none
returns-clause-none g c = λ keeps.
    let image : List ℕ = bytes_of (g.D.SectorDevice.disk c.args.device.now).now in
    let h = c.args.header.now in
    let at : IsBlockAt image c.args.frame.now h c.in-Some.block = rw c.in-Some.is at (c.in_ok-block.ensures.read keeps) in
    let call = rw (c.in_ok-block.ensures.reads.disk keeps) at (c.read_parts.ensures.none keeps) in
    let used = c.as_slice.ensures.value ∙ ap (λ (b : LogBlock). b.used) c.block.view_is in
    let begins : MayBegin c.in-Some.block.used c.in-Some-long_size.size = subst (λ (l : List ℕ). MayBegin l c.in-Some-long_size.size) used (rw c.in-Some-long_size.is at c.long_size.ensures.some) in
    none_weaker (HasNoLong image c.args.frame.now h c.in-Some-long_size.size) (HasNoPieceAt image c.args.frame.now h) c.read_parts.result (call at)
    (λ none. none_long image c.args.frame.now h c.in-Some.block at c.in-Some-long_size.size begins none)
