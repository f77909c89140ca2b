-- Request No. 4: each theorem cites its law; the worked headers, files and sizes are computed. Assumes nothing.
use mathlib.Core.Path.{refl, sym, ap, subst}
use native.Mathlib.Nat.{le_trans, div-add-mod'}
use native.Mathlib.Omega.{arith}
use borrow.Author.Tests.{leb-true}
use lib.Dec.{lit≤}
use Rattle.symbols.specs.Guard.{require◌else◌then◌}
use Rattle.symbols.specs.Header.{legal_codings, legal_header, header_with}
use Rattle.symbols.specs.Requires.{SizeWithin}
use Rattle.symbols.specs.Size.{max_macroblocks, max_macroblocks_small, legal_size, size_of, size_within, macroblock_count}
use Rattle.symbols.specs.declared.size.PictureSize.{PictureSize}
use Rattle.symbols.proofs.Laws.Size.{SizeLegal, size-legal, made, kept-within, few-within, bytes-few, column-inside, row_inside}
use Rattle.decode_macroblock.specs.Location.{macroblock_position}
use Rattle.decode_macroblock.proofs.LocationLaws.{position-inside, location-inside}
use Rattle.decode_macroblock.proofs.OwnerLaws.{owner-below}
use Rattle.format3_records.specs.Field.{byte, two_bytes}
use Rattle.format3_records.specs.Record.{record_length_at, kind_at, record_of}
use Rattle.format3_header.specs.Header.{header_of}
use Rattle.format3_header.specs.Lengths.{lent_lengths, caller_verdict}
use Rattle.format3_header.specs.FileStart.{first_record, first_header, file_start_of}
use Rattle.format3_picture.specs.Picture.{Picture}
use Rattle.format3_picture.proofs.PictureLaws.{no_header}
use Rattle.format3_picture.proofs.StartLaws.{header_read}
use Rattle.theorems_picture.proofs.Request4 as Laws
use Rattle.theorems_picture.proofs.Worked.{worked-files}
use Rattle.theorems.specs.Request4.{ExactlyBeyond, RefusedBeyond, NeverAt396, SameOnBoth, SameWithin, MemoryEnough, ConstructedWithin, FactsWithin, WorkedLimits}

pub refused-beyond : RefusedBeyond
refused-beyond limit transform file forward backward output b = no_header limit transform file forward backward output (Laws.beyond-start file forward backward output limit b)

pub exactly-beyond : ExactlyBeyond
exactly-beyond limit transform file forward backward output =
    (Laws.only-beyond file forward backward output limit transform, (λ b. ap (λ (p : Picture). p.number) (refused-beyond limit transform file forward backward output b)))

pub never-at-396 : NeverAt396
never-at-396 = Laws.never-at-396

pub same-within : SameWithin
same-within limit other transform file forward backward output here there = Laws.same-picture file forward backward output limit other here there transform

pub same-on-both : SameOnBoth
same-on-both transform file forward backward output here =
    same-within max_macroblocks_small max_macroblocks transform file forward backward output here (Laws.never-beyond-396 file)

pub memory-enough : MemoryEnough
memory-enough limit file forward backward output h end e =
    let start = header_read limit file forward backward output e in
    let size = few-within start.header.size start.caller.few in
    let bytes = bytes-few size in
    record {
      size-within = size;
      output-fits = omega (arith, start.caller.lent.output-whole, bytes);
      forward-fits = le_trans start.caller.forward-short bytes;
      backward-fits = le_trans start.caller.backward-short bytes;
    }

pub constructed-within : ConstructedWithin
constructed-within = record {
  new = λ width height s e.
      let m = made width height s e in
      subst (λ (t : PictureSize). SizeLegal t.width t.height) (sym m.1) (size-legal width height m.0);
  within = λ limit given s size e.
      let k = kept-within limit given s e in
      subst (SizeWithin limit) (sym k.1) (few-within size (leb-true (macroblock_count given) limit k.0));
}

pub facts-within : FactsWithin
facts-within limit s bounded size = record {
  bytes = bytes-few size;
  small = omega (arith, bytes-few size, bounded);
  starts = refl;
  after-Y = omega arith;
  after-Cb = omega arith;
  after-Cr = omega arith;
  column = column-inside size;
  row = row_inside size;
  back = λ address. div-add-mod' address s.width;
  inside = λ address block low six. location-inside (macroblock_position s address) block (position-inside address bounded size low) six;
  owned = owner-below s size;
}

pub worked : WorkedLimits
unfolding require◌else◌then◌ byte two_bytes record_length_at kind_at record_of legal_size size_of size_within legal_codings legal_header header_with header_of lent_lengths caller_verdict first_record first_header file_start_of
worked = record {
  ninety-nine = refl;
  hundred = refl;
  hundred-at-396 = refl;
  wrong-lengths = refl;
  wrong-lengths-at-396 = refl;
  too_large = refl;
  no-f-code = refl;
  small-files = worked-files.4;
  at-limit = worked-files.5;
  beyond-limit = worked-files.6;
  made = refl;
  not_made = refl;
  within = refl;
  not_within = refl;
  size = record { wide = lit≤ tt; high = lit≤ tt; few = lit≤ tt };
  bytes = refl;
  last-column = refl;
  last_row = refl;
}
