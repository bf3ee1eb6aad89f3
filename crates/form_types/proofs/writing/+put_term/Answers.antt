use Rattle.std.proofs.Common.{arith, rules, append_assoc}
use Rattle.form_grammar.proofs.Chains.{wrote, all_written, to_write}
use Rattle.slang_core.specs.TypeTrees.{arg_tree}
use Rattle.slang_core.specs.declared.types.TypeTerm.{the_lemmas}
use Rattle.form_types.proofs.writing.+put_term.Goals as goal

pub put_arg_items-loop-arg-init : goal.put_arg_items-loop-arg-init
put_arg_items-loop-arg-init t c = to_write arg_tree c.args.out.now.items c.args.args.now

pub put_arg_items-loop-arg-preserved : goal.put_arg_items-loop-arg-preserved
put_arg_items-loop-arg-preserved t c = wrote arg_tree c.loop-arg.out.items c.put_arg.new.out.items c.args.args.now c.loop-arg.arg-index _ c.arg-item.result (omega arith) c.arg-item.is c.in_ok-put_arg.ensures c.loop-arg.invariant

pub put_arg_items-returns : goal.put_arg_items-returns
put_arg_items-returns t c = all_written arg_tree c.loop-arg.out.items c.args.args.now c.loop-arg.arg-index _ c.loop-arg-test.false c.loop-arg.invariant

pub put_term-returns-in_ok-put_args-in-Struct : goal.put_term-returns-in_ok-put_args-in-Struct
put_term-returns-in_ok-put_args-in-Struct t c = search (rules, the_lemmas, append_assoc)

pub put_term-returns-in_ok-put_num-in-Parameter : goal.put_term-returns-in_ok-put_num-in-Parameter
put_term-returns-in_ok-put_num-in-Parameter t c = search (rules, the_lemmas, append_assoc)

pub put_term-returns-in_ok-put_name-in-Projection : goal.put_term-returns-in_ok-put_name-in-Projection
put_term-returns-in_ok-put_name-in-Projection t c = search (rules, the_lemmas, append_assoc)

pub put_term-returns-in_ok-put_term-in-StructuredBuffer : goal.put_term-returns-in_ok-put_term-in-StructuredBuffer
put_term-returns-in_ok-put_term-in-StructuredBuffer t c = search (rules, the_lemmas, append_assoc)

pub put_term-returns-in_ok-put_term-in-RwStructuredBuffer : goal.put_term-returns-in_ok-put_term-in-RwStructuredBuffer
put_term-returns-in_ok-put_term-in-RwStructuredBuffer t c = search (rules, the_lemmas, append_assoc)

pub put_term-returns-in_ok-put_term-in-ConstantBuffer : goal.put_term-returns-in_ok-put_term-in-ConstantBuffer
put_term-returns-in_ok-put_term-in-ConstantBuffer t c = search (rules, the_lemmas, append_assoc)

pub put_term-returns-in_ok-put_term-in-ParameterBlock : goal.put_term-returns-in_ok-put_term-in-ParameterBlock
put_term-returns-in_ok-put_term-in-ParameterBlock t c = search (rules, the_lemmas, append_assoc)
