-- What the code of this crate relies on; no rule of document 01.
use Rattle.std.specs.Prelude.{true, List, ◌≡◌, ℕ, ◌+◌, ◌*◌, ◌≤◌, ◌<◌, eqb, length, OnSome}
use Rattle.symbols.specs.Parsed.{parsed}
use Rattle.symbols.specs.Header.{uses_forward, uses_backward}
use Rattle.symbols.specs.Requires.{HeaderWithin, SizeWithin}
use Rattle.symbols.specs.Size.{max_macroblocks, macroblock_count, picture_bytes}
use Rattle.symbols.specs.declared.header.Header.{Header}
use Rattle.symbols.specs.declared.size.PictureSize.{PictureSize}
use Rattle.symbols.specs.declared.macroblock.MacroblockSymbols.{MacroblockSymbols}
use Rattle.decode_coefficients.specs.Dc.{reset_dc_pasts}
use Rattle.decode_vectors.specs.Vector.{max_vector}
use Rattle.decode_macroblock.specs.Requires.{MotionWithin, Lent}
use Rattle.decode_state.specs.Requires.{VectorPastsWithin}
use Rattle.decode_state.specs.Plan.{plan_of}
use Rattle.decode_state.specs.declared.plan.Plan.{Plan}
use Rattle.format3_macroblock.specs.Requires.{LegalDcPasts}
use Rattle.format3_macroblock.specs.Slice.{legal_scale}
use Rattle.format3_macroblock.specs.Macroblock.{macroblock_symbols_of}
use Rattle.format3_picture.specs.declared.state.PictureState.{PictureState}
use Rattle.format3_picture.specs.MacroblockRecord.{context_of}
use Rattle.format3_picture.specs.Picture.{is_complete}

-- the lengths of the lent buffers, once 19, 20 and 21 are ruled out
pub record LentLengths (h : Header) (forward backward output : List ℕ) : Type 0 where
  pub output-whole : length output ≡ picture_bytes h.size
  pub forward-whole : uses_forward h.coding_type ≡ true → length forward ≡ picture_bytes h.size
  pub backward-whole : uses_backward h.coding_type ≡ true → length backward ≡ picture_bytes h.size

-- a legal header, and a slice's state in range
pub record StateWithin (s : PictureState) : Type 0 where
  pub header : HeaderWithin s.header
  pub scale : legal_scale s.slice.scale ≡ true
  pub dc : LegalDcPasts s.slice.dc
  pub pasts : VectorPastsWithin s.slice.pasts
  pub motion : MotionWithin max_vector s.slice.motion
  pub forward-used : OnSome s.slice.motion.forward (uses_forward s.header.coding_type ≡ true)
  pub backward-used : OnSome s.slice.motion.backward (uses_backward s.header.coding_type ≡ true)
  pub inside : s.next ≤ macroblock_count s.header.size
  pub counted : s.made ≡ s.next
  pub worked : s.rows ≤ 48 * s.made
  pub complete : is_complete s.turn ≡ eqb s.next (macroblock_count s.header.size)

-- the invariant: the state is in range and the lent buffers have the right lengths, so a record may be read
pub record Invariant (s : PictureState) (forward backward output : List ℕ) : Type 0 where
  pub state : StateWithin s
  pub lent : LentLengths s.header forward backward output

-- a plan whose macroblocks follow those already made
pub record PlanFollows (s : PictureState) (p : Plan) : Type 0 where
  pub size : SizeWithin max_macroblocks s.header.size
  pub follows : p.address ≡ s.next + p.skipped
  pub inside : p.address < macroblock_count s.header.size
  pub counted : s.made ≤ s.next
  pub worked : s.rows ≤ 48 * s.made

-- a plan whose fit can be tested
pub record PlanWithin (size : PictureSize) (p : Plan) : Type 0 where
  pub within : SizeWithin max_macroblocks size
  pub follows : p.address ≡ p.first + p.skipped
  pub inside : p.address < macroblock_count size
  pub skip-within : MotionWithin max_vector p.skip_motion
  pub own-within : MotionWithin max_vector p.motion

-- buffers that its macroblocks can be written to and predicted from, if they fit
pub record PlanLent (size : PictureSize) (p : Plan) (forward backward output : List ℕ) : Type 0 where
  pub skip-lent : Lent size p.skip_motion forward backward output
  pub own-lent : Lent size p.motion forward backward output

-- a plan whose macroblocks can be written, if they fit
pub record PlanWritable (s : PictureState) (p : Plan) (forward backward output : List ℕ) : Type 0 where
  pub planned : PlanWithin s.header.size p
  pub lent : PlanLent s.header.size p forward backward output
  pub follows : PlanFollows s p

-- symbols that some macroblock record gives in this state
pub record SymbolsRead (s : PictureState) (m : MacroblockSymbols) : Type 0 where
  pub body : List ℕ
  pub rest : List ℕ
  pub read : macroblock_symbols_of (context_of s) body ≡ parsed m rest

-- the plan for such symbols, with reset DC pasts, as a non-intra macroblock leaves them
abbrev pub starting_plan : PictureState → MacroblockSymbols → Plan
starting_plan s m = plan_of s.header s.next s.slice (record { symbols = m; dc = reset_dc_pasts })
