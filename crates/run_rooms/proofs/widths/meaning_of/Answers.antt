use Rattle.std.proofs.Common.{ap, sym, ◌∙◌, inl, inr}
use Rattle.spirv_words.specs.Machine.{meaning_of}
use Rattle.run_rooms.specs.Widths.{measured}
use Rattle.run_rooms.proofs.widths.meaning_of.Goals as goal

pub returns-in-TypeVoid : goal.returns-in-TypeVoid
returns-in-TypeVoid c = λ code g h. c.void_type.ensures code g ∙ ap (λ op. measured (meaning_of code g op c.args.operands.now)) (sym c.in-TypeVoid.is)

pub returns-in-TypeBool : goal.returns-in-TypeBool
returns-in-TypeBool c = λ code g h. c.bool_type.ensures code g ∙ ap (λ op. measured (meaning_of code g op c.args.operands.now)) (sym c.in-TypeBool.is)

pub returns-in-TypeInt : goal.returns-in-TypeInt
returns-in-TypeInt c = λ code g h. c.int_type.ensures code g ∙ ap (λ op. measured (meaning_of code g op c.args.operands.now)) (sym c.in-TypeInt.is)

pub returns-in-TypeVector : goal.returns-in-TypeVector
returns-in-TypeVector c = λ code g h. c.vector_type.ensures code g h ∙ ap (λ op. measured (meaning_of code g op c.args.operands.now)) (sym c.in-TypeVector.is)

pub returns-in-TypePointer : goal.returns-in-TypePointer
returns-in-TypePointer c = λ code g h. c.pointer_type.ensures code g h ∙ ap (λ op. measured (meaning_of code g op c.args.operands.now)) (sym c.in-TypePointer.is)

pub returns-in-ConstantTrue : goal.returns-in-ConstantTrue
returns-in-ConstantTrue c = λ code g h. elim c.in-ConstantTrue.is [
  | inl is ↦ c.truth.ensures.true_is code g ∙ ap (λ op. measured (meaning_of code g op c.args.operands.now)) (sym is)
  | inr is ↦ c.truth.ensures.false_is code g ∙ ap (λ op. measured (meaning_of code g op c.args.operands.now)) (sym is)
]

pub returns-in-Constant : goal.returns-in-Constant
returns-in-Constant c = λ code g h. c.number.ensures code g ∙ ap (λ op. measured (meaning_of code g op c.args.operands.now)) (sym c.in-Constant.is)

pub returns-in-ConstantNull : goal.returns-in-ConstantNull
returns-in-ConstantNull c = λ code g h. c.null.ensures code g h ∙ ap (λ op. measured (meaning_of code g op c.args.operands.now)) (sym c.in-ConstantNull.is)
