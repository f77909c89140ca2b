-- What the reader keeps from record to record (document 01, "The Format 3 file").
use Rattle.std.specs.Prelude.{false}
use Rattle.symbols.specs.declared.header.Header.{Header}
use Rattle.decode_state.specs.State.{reset_slice}
use Rattle.format3_records.specs.declared.turn.Turn.TheVariants as Turn
use Rattle.format3_picture.specs.declared.state.PictureState.{PictureState}

-- the state after the header: no matrix loaded, no macroblock made
abbrev pub start_state : Header → PictureState
start_state header = record {
  header = header;
  loaded = record { intra = false; non_intra = false };
  turn = Turn.Header;
  next = 0;
  made = 0;
  rows = 0;
  slice = reset_slice 1;
}
