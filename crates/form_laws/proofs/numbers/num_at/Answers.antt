use Rattle.std.proofs.Common.{◌≡◌, ◌+◌, ◌-◌, ◌∷◌, length, drop, Err, sym, ap, ◌∙◌, inl, inr, arith}
use Rattle.std.proofs.lemmas.List.{length-append, length-drop, take_rest}
use Rattle.form_grammar.specs.Trees.{spelled_number}
use Rattle.form_grammar.specs.Numbers.{number_at}
use Rattle.form_laws.proofs.Takes.{number_take}
use Rattle.form_laws.proofs.Fields.{bytes_from, bytes_past, number_codes, number_ends, number_stops}
use Rattle.form_laws.proofs.numbers.num_at.Goals as goal

pub overflow_sub-result : goal.overflow_sub-result
overflow_sub-result c =
    let p = bytes_past c.args.at c.args.bytes.now (bytes_from c.args.bytes.now (λ i. omega (arith, c.type_inv.bytes i))) in
    let t = number_take (drop c.args.at c.args.bytes.now) c.in-Ok.number c.in-Ok.rest.now p (ap number_at (sym (take_rest c.args.bytes.now c.args.at)) ∙ c.in-Ok.ensures) in
    omega (arith, ap length t.1, length-append (spelled_number c.in-Ok.number) c.in-Ok.rest.now, length-drop c.args.at c.args.bytes.now)

pub returns-in-Ok : goal.returns-in-Ok
returns-in-Ok c =
    let p = bytes_past c.args.at c.args.bytes.now (bytes_from c.args.bytes.now (λ i. omega (arith, c.type_inv.bytes i))) in
    let t = number_take (drop c.args.at c.args.bytes.now) c.in-Ok.number c.in-Ok.rest.now p (ap number_at (sym (take_rest c.args.bytes.now c.args.at)) ∙ c.in-Ok.ensures) in
    (c.in-Ok.rest.now, t.1, omega (arith, ap length t.1, length-append (spelled_number c.in-Ok.number) c.in-Ok.rest.now, length-drop c.args.at c.args.bytes.now), t.0)

pub returns-in-Short : goal.returns-in-Short
returns-in-Short c =
    let p = bytes_past c.args.at c.args.bytes.now (bytes_from c.args.bytes.now (λ i. omega (arith, c.type_inv.bytes i))) in
    let e : number_at (drop c.args.at c.args.bytes.now) ≡ Err c.in-Err.stop = ap number_at (sym (take_rest c.args.bytes.now c.args.at)) ∙ c.in-Err.ensures in
    elim (number_codes (drop c.args.at c.args.bytes.now) c.in-Err.stop e) [
      | inl z ↦ number_ends (drop c.args.at c.args.bytes.now) c.in-Err.stop p e (ap (λ s. s.left) z)
      | inr z ↦ absurd (let q = c.in-Short.is in cc)
    ]

pub overflow_sub-result-in_default : goal.overflow_sub-result-in_default
overflow_sub-result-in_default c =
    let p = bytes_past c.args.at c.args.bytes.now (bytes_from c.args.bytes.now (λ i. omega (arith, c.type_inv.bytes i))) in
    let e : number_at (drop c.args.at c.args.bytes.now) ≡ Err c.in-Err.stop = ap number_at (sym (take_rest c.args.bytes.now c.args.at)) ∙ c.in-Err.ensures in
    elim (number_codes (drop c.args.at c.args.bytes.now) c.in-Err.stop e) [
      | inl z ↦ omega (arith, ap (λ s. s.left) z)
      | inr z ↦ let r = number_stops (drop c.args.at c.args.bytes.now) c.in-Err.stop p e z in omega (arith, ap length r.3, r.4, length-append r.0 (r.1 ∷ r.2), length-drop c.args.at c.args.bytes.now)
    ]

pub returns-in_default : goal.returns-in_default
returns-in_default c =
    let p = bytes_past c.args.at c.args.bytes.now (bytes_from c.args.bytes.now (λ i. omega (arith, c.type_inv.bytes i))) in
    let e : number_at (drop c.args.at c.args.bytes.now) ≡ Err c.in-Err.stop = ap number_at (sym (take_rest c.args.bytes.now c.args.at)) ∙ c.in-Err.ensures in
    elim (number_codes (drop c.args.at c.args.bytes.now) c.in-Err.stop e) [
      | inl z ↦ absurd (c.in_default.not-Short (ap (λ s. s.code) z))
      | inr z ↦
          let r = number_stops (drop c.args.at c.args.bytes.now) c.in-Err.stop p e z in
          let n : length c.args.bytes.now - c.in-Err.stop.left ≡ c.args.at + length r.0 = omega (arith, c.requires, ap length r.3, r.4, length-append r.0 (r.1 ∷ r.2), length-drop c.args.at c.args.bytes.now) in
          (r.0, r.1, r.2, r.3, n, r.5, r.6)
    ]
