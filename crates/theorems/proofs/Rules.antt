-- Sentences that follow from the rules: each theorem cites its law. Assumes nothing.
use Rattle.math.specs.Tab.{tab}
use Rattle.decode_coefficients.proofs.Ranges.{coefficient-zero, coefficient-between}
use Rattle.decode_vectors.proofs.VectorLaws as Vector
use Rattle.decode_prediction.proofs.FitLaws as Fit
use Rattle.decode_prediction.proofs.MeanLaws.{mean-lower, mean-upper, predicted-whole}
use Rattle.theorems.specs.Rules.{ZeroGivesZero, CoefficientsBetween, VectorsInRange, CoordinatesInHalfPels, ChromaFits, MeansNearest, WholePelsCopied}

pub zero-gives-zero : ZeroGivesZero
zero-gives-zero = coefficient-zero

pub coefficients-between : CoefficientsBetween
coefficients-between = coefficient-between

pub vectors-in-range : VectorsInRange
vectors-in-range = Vector.vectors-in-range

pub places-in-half-pels : CoordinatesInHalfPels
places-in-half-pels x vector h = record { whole = Fit.coordinate-whole x vector h; odd = Fit.coordinate-odd x vector h }

pub chroma-fits : ChromaFits
chroma-fits = Fit.chroma-fits

pub means-nearest : MeansNearest
means-nearest n sum h = record { lower = mean-lower n sum h; upper = mean-upper n sum h }

pub whole-pels-copied : WholePelsCopied
whole-pels-copied plane stride px py e = λ i. tab 64 (λ k. predicted-whole plane stride px py k e i)
