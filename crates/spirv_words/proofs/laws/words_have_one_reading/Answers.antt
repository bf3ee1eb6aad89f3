use Rattle.std.proofs.Common.{inl, inr}
use Rattle.spirv_words.proofs.Once.{one_image, one_fault, no_fault}
use Rattle.spirv_words.proofs.Whole.{one_or_other}
use Rattle.spirv_words.proofs.laws.words_have_one_reading.Goals as goal

pub returns-clause-one_image : goal.returns-clause-one_image
returns-clause-one_image c = one_image

pub returns-clause-one_fault : goal.returns-clause-one_fault
returns-clause-one_fault c = one_fault

pub returns-clause-not_both : goal.returns-clause-not_both
returns-clause-not_both c = no_fault

pub returns-clause-one_or_other : goal.returns-clause-one_or_other
returns-clause-one_or_other c = λ words small.
    elim (one_or_other words small) [ inl s ↦ inl (s.image, s.spells) | inr u ↦ inr (u.place, u.code, u.first) ]
