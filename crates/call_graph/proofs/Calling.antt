-- The functions that call a function are those from which a call leads to it.
use Rattle.std.proofs.Common.{◌≡◌, ℕ, ◌+◌, ◌<◌, ◌||◌, Bool, true, false, cond, nat_eq, List, [], ◌∷◌, ◌++◌, take, get_or, length, refl, sym, ◌∙◌, ap}
use Rattle.std.proofs.lemmas.List.{take_more}
use Rattle.std.specs.List.{list_any}
use Rattle.call_graph.specs.Edges.{callees, calls_it}
use Rattle.call_graph.specs.Order.{callers, turned}
use Rattle.call_graph.proofs.Visits.{flip}

pub turned-callees : (es : List (ℕ × ℕ)) (id : ℕ) → callees (turned es) id ≡ callers es id
turned-callees [] id = refl
turned-callees (e ∷ es) id = ap (λ (l : List ℕ). cond (nat_eq e.1 id) (e.0 ∷ l) l) (turned-callees es id)

both : (p q : Bool) (x y : Bool) (cs fs : List ℕ) (c f : ℕ) (a b : ℕ) → nat_eq c a ≡ p → nat_eq f b ≡ q → list_any (nat_eq c) cs ≡ list_any (nat_eq f) fs
    → list_any (nat_eq c) (cond q (a ∷ cs) cs) ≡ list_any (nat_eq f) (cond p (b ∷ fs) fs)
both true true x y cs fs c f a b p q h = ap (λ t. t || list_any (nat_eq c) cs) p ∙ sym (ap (λ t. t || list_any (nat_eq f) fs) q)
both true false x y cs fs c f a b p q h = h ∙ sym (ap (λ t. t || list_any (nat_eq f) fs) q)
both false true x y cs fs c f a b p q h = ap (λ t. t || list_any (nat_eq c) cs) p ∙ h
both false false x y cs fs c f a b p q h = h

pub callers-call : (es : List (ℕ × ℕ)) (c f : ℕ) → list_any (nat_eq c) (callers es f) ≡ calls_it es c f
callers-call [] c f = refl
callers-call (e ∷ es) c f =
    ap (λ t. list_any (nat_eq c) (cond t (e.0 ∷ callers es f) (callers es f))) (flip e.1 f)
    ∙ both (nat_eq c e.0) (nat_eq f e.1) true true (callers es f) (callees es c) c f e.0 e.1 refl refl (callers-call es c f)
    ∙ ap (λ t. list_any (nat_eq f) (cond t (e.1 ∷ callees es c) (callees es c))) (flip c e.0)

turned-push : (es : List (ℕ × ℕ)) (e : ℕ × ℕ) → turned (es ++ e ∷ []) ≡ turned es ++ (e.1, e.0) ∷ []
turned-push [] e = refl
turned-push (f ∷ es) e = ap (λ l. (f.1, f.0) ∷ l) (turned-push es e)

pub turned-more : (es : List (ℕ × ℕ)) (k : ℕ) (d : ℕ × ℕ) → k < length es →
    turned (take (k + 1) es) ≡ turned (take k es) ++ ((get_or es k d).1, (get_or es k d).0) ∷ []
turned-more es k d lt = ap turned (take_more es k d lt) ∙ turned-push (take k es) (get_or es k d)
