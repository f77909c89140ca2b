-- Which bits decide a coefficient's word in its three rows. Assumes nothing.
use lib.Dec.{T}
use Rattle.mpeg1_tables.specs.Code.{word, digits_of, is_prefix}
use Rattle.mpeg1_tables.specs.AnnexB.{shared_words, next_coefficients}
use Rattle.mpeg1_tables.specs.Table.{packed}
use Rattle.mpeg1_tables.proofs.Laws.Prefix.{every_word, no_longer}
use Rattle.mpeg1_tables.proofs.Laws.Branch.{branch_of, branches, grown, after, descended, split, split_row}
use Rattle.mpeg1_vlc.proofs.Laws.Level.{none_is, settles}

-- eight bits decide the word unless six zeros lead; after six zeros the next eight do, unless two more zeros follow
pub coefficients-settle : T (settles 13 4)
unfolding settles none_is split_row split descended after grown branches branch_of is_prefix packed word digits_of shared_words next_coefficients
coefficients-settle = tt

pub six-zeros-settle : T (settles 14 64)
unfolding settles none_is split_row split descended after grown branches branch_of is_prefix packed word digits_of shared_words next_coefficients
six-zeros-settle = tt

pub coefficients-no-longer : T (no_longer 16 next_coefficients)
unfolding every_word word digits_of shared_words next_coefficients
coefficients-no-longer = tt
