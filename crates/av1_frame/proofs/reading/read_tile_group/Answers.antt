use Rattle.std.proofs.Common.{◌≡◌, List, ℕ, map, None, Some, arith}
use Rattle.av1_frame.specs.Framing.{IsFramedAs, group_tiles}
use Rattle.av1_frame.proofs.Framings.{some_read, none_read, framed_as_read, none_framed, bytes_from}
use Rattle.av1_frame.proofs.reading.read_tile_group.Goals as goal

pub returns-clause-some : goal.returns-clause-some
returns-clause-some c =
    let count = c.args.size_bytes in
    let bytes = c.args.bytes.now in
    some_read c.read_group.result
    (λ list. group_tiles count c.args.tiles bytes ≡ Some (map (λ t. t.items) list.items))
    (λ list. IsFramedAs count c.args.tiles bytes (map (λ t. t.items) list.items))
    (λ list read. framed_as_read count c.args.tiles bytes (map (λ t. t.items) list.items) c.requires.tiles (bytes_from bytes (λ i. omega (arith, c.type_inv.bytes i))) read)
    c.read_group.ensures.some

pub returns-clause-none : goal.returns-clause-none
returns-clause-none c =
    let count = c.args.size_bytes in
    let bytes = c.args.bytes.now in
    none_read c.read_group.result
    (group_tiles count c.args.tiles bytes ≡ None)
    ((list : List (List ℕ)) → ¬ IsFramedAs count c.args.tiles bytes list)
    (λ none list. none_framed count c.args.tiles bytes list none)
    c.read_group.ensures.none
