-- What is proved, on one page: a file for each demand, for each request, and for what document 01 says beyond the demands.
-- the lent memory after every call: what a refusal gives, what a refused picture holds, and which bytes stay
pub mod Demand1
-- accepted exactly when no refusal applies; an accepted picture is the standard's, byte for byte
pub mod Demand2
-- the inverse transform lies within 9/16 of the exact cosine sum, and the ends hold the cosines
pub mod Demand3
-- which direction left the picture: when 18 and 23 are given, and that only the number depends on the refusal of a backward misfit
pub mod Request1
-- raw slices: when one is accepted, what is written, and what the strict reader reads from it
pub mod Request2
-- one pass over the block: what a block holds after each of its pairs
pub mod Request3
-- a limit for each caller: when 27 is given, and that within any two limits the picture is the same; the facts about sizes
pub mod Request4
-- rows worked: what the number is, its bounds, and that a picture's is the total over the macroblocks made
pub mod Request6
-- every small vector: the list has every legal input once, in order
pub mod Request11
-- writing a vector: it is read back, which pairs reach it, and when 33 is given
pub mod Request12
-- the writer and the reader of a record undo one another
pub mod Records
-- sentences that follow from the rules: coefficients, vectors, fit, means
pub mod Rules
-- the starred figures
pub mod Figures
-- where panels drift
pub mod Drifts
