-- `read_coded_head` meets its contract: it reads a type, then a scale if the type has one. Assumes nothing.
use Rattle.std.proofs.Common.{◌≡◌, refl, arith}
use Rattle.symbols.specs.Parsed.{parsed}
use Rattle.symbols.proofs.Parsed.{all-at}
use Rattle.mpeg1_tables.specs.AnnexB.{types_of}
use Rattle.mpeg1_vlc.proofs.Laws.Range.{type-read}
use Rattle.mpeg1_slice.specs.Read.{word_at}
use Rattle.mpeg1_slice.proofs.Laws.Read.{step-read, standing, word-onward, word-between}
use Rattle.mpeg1_reader.proofs.Laws.Lengths.{scale_small}
use Rattle.mpeg1_reader.proofs.head.read_coded_head.Goals as goal

pub overflow_cast-macroblock_type : goal.overflow_cast-macroblock_type
overflow_cast-macroblock_type c =
    let code : word_at (types_of c.args.coding_type) c.args.bytes.now c.args.from ≡ parsed c.in_ok-word.word c.in_ok-word.after_type = rw (← c.types-types.ensures) (step-read _ c.in_ok-word.ensures refl) in
    omega (arith, (all-at (word-between _ _ _ (type-read c.args.coding_type)) code).1)

pub read_coded_scale-requires : goal.read_coded_scale-requires
read_coded_scale-requires c =
    let code : word_at (types_of c.args.coding_type) c.args.bytes.now c.args.from ≡ parsed c.in_ok-word.word c.in_ok-word.after_type = rw (← c.types-types.ensures) (step-read _ c.in_ok-word.ensures refl) in
    (all-at (word-onward (standing c.requires) _ (type-read c.args.coding_type)) code).inside

pub overflow_cast-result : goal.overflow_cast-result
overflow_cast-result c = omega (arith, all-at (scale_small _ _ _) (step-read _ c.in_ok-scale.ensures refl))
