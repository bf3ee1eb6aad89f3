use Rattle.std.proofs.Common.{refl, sym, subst, ◌∙◌, ap, Err, Result}
use Rattle.slang_names.specs.declared.faults.ModuleFault.{ModuleFault}
use Rattle.slang_tree.specs.declared.file.File.{File}
use Rattle.slang_reading.specs.Lexed.{lexed_all}
use Rattle.type_reading.specs.Limited.{language}
use Rattle.file_reading.specs.Wholes.{Answers, Refuses}
use Rattle.slang_parse.specs.Parsing.{Spells}
use Rattle.slang_parse.proofs.Texts.{ok_spells, each_file, refused_is, told}
use Rattle.slang_parse.proofs.parsing.parse.Goals as goal

pub tree_of-requires : goal.tree_of-requires
tree_of-requires c =
    let known = c.a_text_is_parsed_or_refused.ensures in
    let read = c.read_file.ensures in
    let s = ok_spells known.all known.answered c.args.text.now c.read_file.result read.long read.cut read.read c.in-Ok.file c.in-Ok.is in
    let d = known.answered c.args.text.now c.in-Ok.file s in
    c.what_is_read_is_nested.ensures.of_files (lexed_all c.args.text.now s.tokens) language 0 0 d.0 d.1 c.in-Ok.file refl d.2

pub returns-in-Ok-clause-spelled : goal.returns-in-Ok-clause-spelled
returns-in-Ok-clause-spelled c =
    let known = c.a_text_is_parsed_or_refused.ensures in
    let read = c.read_file.ensures in
    subst (λ (file : File). Spells c.args.text.now file) (sym c.tree_of.ensures)
    (ok_spells known.all known.answered c.args.text.now c.read_file.result read.long read.cut read.read c.in-Ok.file c.in-Ok.is)

pub returns-in-Ok-clause-parsed : goal.returns-in-Ok-clause-parsed
returns-in-Ok-clause-parsed c = λ file s.
    let known = c.a_text_is_parsed_or_refused.ensures in
    let read = c.read_file.ensures in
    c.tree_of.ensures ∙ subst (λ (r : Result File ModuleFault). Answers file r) c.in-Ok.is (each_file known.all known.answered c.args.text.now c.read_file.result read.long read.cut read.read file s)

pub returns-in-Err-clause-parsed : goal.returns-in-Err-clause-parsed
returns-in-Err-clause-parsed c = λ file s.
    let known = c.a_text_is_parsed_or_refused.ensures in
    let read = c.read_file.ensures in
    subst (λ (r : Result File ModuleFault). Answers file r) c.in-Err.is (each_file known.all known.answered c.args.text.now c.read_file.result read.long read.cut read.read file s)

pub returns-in-Err-clause-refused : goal.returns-in-Err-clause-refused
returns-in-Err-clause-refused c = λ place code e.
    let known = c.a_text_is_parsed_or_refused.ensures in
    let read = c.read_file.ensures in
    refused_is known.all known.answered c.args.text.now c.read_file.result read.long read.cut read.read place code
    (c.in-Err.is ∙ ap (λ (f : ModuleFault). Err f) (let q = e in cc))

pub returns-in-Err-clause-limited : goal.returns-in-Err-clause-limited
returns-in-Err-clause-limited c = λ tokens file spelled b short cut e.
    let d = c.the_first_break_is_told.ensures.broken c.args.text.now tokens file spelled b short cut e in
    subst (λ (r : Result File ModuleFault). Refuses b.place b.code r) c.in-Err.is (told c.args.text.now tokens c.read_file.result b.code b.place d.0 d.1 (c.read_file.ensures.read tokens short cut))

pub returns-in-Ok-clause-limited : goal.returns-in-Ok-clause-limited
returns-in-Ok-clause-limited c = λ tokens file spelled b short cut e.
    let d = c.the_first_break_is_told.ensures.broken c.args.text.now tokens file spelled b short cut e in
    absurd (subst (λ (r : Result File ModuleFault). Refuses b.place b.code r) c.in-Ok.is (told c.args.text.now tokens c.read_file.result b.code b.place d.0 d.1 (c.read_file.ensures.read tokens short cut)))
