-- `read_block` meets its contract: a coded block is read, and stored with its marks once it is whole. Assumes nothing.
use mathlib.Core.Bool.{true}
use mathlib.Core.Path.{◌≡◌, refl, sym, ◌∙◌}
use lib.ListN.{drop}
use mir.Syntax.{w16}
use mir.Val.{to_z, of_z}
use Rattle.std.proofs.Common.{rules}
use Rattle.std.specs.Prelude.{Ok, Err}
use Rattle.math.proofs.Machine.{returned}
use Rattle.symbols.specs.Pattern.{is_coded}
use Rattle.decode_coefficients.specs.Block.{dc_block}
use Rattle.decode_coefficients.specs.Dc.{dc_past_of}
use Rattle.decode_coefficients.proofs.MarkLaws.{block-stored}
use Rattle.format3_records.specs.Reader.{ParsesAs}
use Rattle.format3_macroblock.specs.Landing.{pairs_result}
use Rattle.format3_macroblock.specs.Decoding.{one_block_coding, read_dc_of, levels_into}
use Rattle.format3_macroblock.proofs.Laws.Blocks.{past-legal}
use Rattle.format3_macroblock.proofs.Laws.BlockArray.{dc-stops, levels-stop, block-found}
use Rattle.format3_macroblock.proofs.blocks.read_block.Goals as goal

pub read_dc-requires : goal.read_dc-requires
read_dc-requires c =
    let same-past : to_z w16 (of_z w16 c.of_block.result) ≡ dc_past_of c.args.pasts c.args.block = returned w16 c.of_block.type_inv c.of_block.ensures in
    rw same-past (past-legal _ _ c.requires.1)

pub returns-in_err-dc-clause-parses_as : goal.returns-in_err-dc-clause-parses_as
returns-in_err-dc-clause-parses_as c =
    let is-coded : is_coded c.args.coding.pattern c.args.block ≡ true = sym c.is_coded.ensures ∙ c.if-not-is_coded.false in
    let same-past : to_z w16 (of_z w16 c.of_block.result) ≡ dc_past_of c.args.pasts c.args.block = returned w16 c.of_block.type_inv c.of_block.ensures in
    let answer : c.from_residual.result ≡ Err c.in_err-dc.field-0.0 = search rules in
    rw answer (dc-stops _ _ _ _ _ is-coded (rw same-past at c.in_err-dc.ensures))

pub returns-in_err-end-clause-parses_as : goal.returns-in_err-end-clause-parses_as
returns-in_err-end-clause-parses_as c =
    let is-coded : is_coded c.args.coding.pattern c.args.block ≡ true = sym c.is_coded.ensures ∙ c.if-not-is_coded.false in
    let same-past : to_z w16 (of_z w16 c.of_block.result) ≡ dc_past_of c.args.pasts c.args.block = returned w16 c.of_block.type_inv c.of_block.ensures in
    let first : ParsesAs (read_dc_of c.args.coding.intra (dc_past_of c.args.pasts c.args.block)) c.args.rest.now (Ok (c.in_ok-dc.dc, c.in_ok-dc.after_dc)) = rw same-past at c.in_ok-dc.ensures in
    let same-dc : to_z w16 (of_z w16 c.in_ok-dc.dc) ≡ c.in_ok-dc.dc = returned w16 (search rules) refl in
    let landing : ParsesAs (levels_into (one_block_coding c.args.coding) c.args.matrix.now (dc_block c.in_ok-dc.dc)) (drop c.in_ok-dc.after_dc.at c.args.rest.now) (pairs_result c.read_levels-read.result.answer c.read_levels-read.result.block) = rw (c.dc_block.ensures, same-dc, c.after-left.ensures) at c.read_levels-read.ensures.parses_as in
    let answer : c.from_residual-in_err-end.result ≡ Err c.in_err-end.field-0.0 = search rules in
    rw answer (levels-stop _ _ _ _ _ is-coded first (rw c.in_err-end.was at landing))

pub returns-clause-parses_as : goal.returns-clause-parses_as
returns-clause-parses_as c =
    let is-coded : is_coded c.args.coding.pattern c.args.block ≡ true = sym c.is_coded.ensures ∙ c.if-not-is_coded.false in
    let same-past : to_z w16 (of_z w16 c.of_block.result) ≡ dc_past_of c.args.pasts c.args.block = returned w16 c.of_block.type_inv c.of_block.ensures in
    let first : ParsesAs (read_dc_of c.args.coding.intra (dc_past_of c.args.pasts c.args.block)) c.args.rest.now (Ok (c.in_ok-dc.dc, c.in_ok-dc.after_dc)) = rw same-past at c.in_ok-dc.ensures in
    let same-dc : to_z w16 (of_z w16 c.in_ok-dc.dc) ≡ c.in_ok-dc.dc = returned w16 (search rules) refl in
    let landing : ParsesAs (levels_into (one_block_coding c.args.coding) c.args.matrix.now (dc_block c.in_ok-dc.dc)) (drop c.in_ok-dc.after_dc.at c.args.rest.now) (pairs_result c.read_levels-read.result.answer c.read_levels-read.result.block) = rw (c.dc_block.ensures, same-dc, c.after-left.ensures) at c.read_levels-read.ensures.parses_as in
    rw (c.after_block.ensures, same-dc, c.store_block.ensures)
    (block-found _ _ _ _ _ is-coded first (rw c.in_ok-end.was at landing))

pub returns-clause-blocks_marked : goal.returns-clause-blocks_marked
returns-clause-blocks_marked c = rw c.store_block.ensures (block-stored c.requires.3 c.args.block c.requires.0 c.read_levels-read.ensures.marked)
