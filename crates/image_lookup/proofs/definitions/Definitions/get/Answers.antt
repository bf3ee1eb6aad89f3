use Rattle.std.proofs.Common.{◌≡◌, Some, None, sym, ◌∙◌, ap}
use Rattle.spirv_words.specs.Machine.{place_of, definition_of}
use Rattle.image_lookup.proofs.Found.{definition-found, definition-none}
use Rattle.image_lookup.proofs.definitions.Definitions.get.Goals as goal

pub returns-in-Some : goal.returns-in-Some
returns-in-Some c =
    let at : place_of c.self.inside.code.now c.args.id 0 ≡ Some c.in-Some.place.now = sym (c.self.invariant.found c.args.id) ∙ sym (c.in-Some.ensures.value) in
    c.instruction_at.ensures ∙ definition-found c.self.inside.code.now c.args.id c.in-Some.place.now at ∙ ap (λ code. definition_of code c.args.id) c.self.view_is

pub returns-in-None : goal.returns-in-None
returns-in-None c =
    let at : place_of c.self.inside.code.now c.args.id 0 ≡ None = sym (c.self.invariant.found c.args.id) ∙ sym (c.in-None.ensures.value) in
    sym (definition-none c.self.inside.code.now c.args.id 0 at) ∙ ap (λ code. definition_of code c.args.id) c.self.view_is
