-- How pieces of known bytes join.
use Rattle.std.proofs.Common.{◌≡◌, ◌+◌, ◌<◌, ℕ, List, [], ◌++◌, length, take, drop, Option, Some, None, refl, sym, ap, ◌∙◌, append_assoc, length-append, arith}
use Rattle.std.proofs.lemmas.List.{append-nil, take-append-drop}
use Rattle.std.specs.Prelude.{IfSome}
use Rattle.std.specs.Io.KnownBytes.{Appends, Consumes, IsAtEnd, Keeps}
use Rattle.av1_rec.specs.Told.{LosesCount}

-- writing nothing appends nothing
pub appends_none : (a : Option (List ℕ)) → Appends a a []
appends_none None = tt
appends_none (Some old) = sym (append-nil old)

-- one piece was written behind another
pub appends_then : (a b c : Option (List ℕ)) (x y : List ℕ) → Appends a b x → Appends b c y → Appends a c (x ++ y)
appends_then None b c x y p q = tt
appends_then (Some old) None c x y p q = absurd p
appends_then (Some old) (Some new) None x y p q = absurd q
appends_then (Some old) (Some new) (Some last) x y p q = q ∙ ap (λ (l : List ℕ). l ++ y) p ∙ append_assoc old x y

-- one piece was read behind another
pub consumes_then : (a b c : Option (List ℕ)) (x y : List ℕ) → Consumes a b x → Consumes b c y → Consumes a c (x ++ y)
consumes_then None b c x y p q = tt
consumes_then (Some old) None c x y p q = absurd p
consumes_then (Some old) (Some new) None x y p q = absurd q
consumes_then (Some old) (Some new) (Some last) x y p q = p ∙ ap (λ (l : List ℕ). x ++ l) q ∙ sym (append_assoc x y last)

-- known bytes that stayed, and then lost a front
pub keeps_then_consumes : (a b c : Option (List ℕ)) (x : List ℕ) → Keeps a b → Consumes b c x → Consumes a c x
keeps_then_consumes None b c x p q = tt
keeps_then_consumes (Some old) None c x p q = absurd p
keeps_then_consumes (Some old) (Some new) None x p q = absurd q
keeps_then_consumes (Some old) (Some new) (Some last) x p q = sym p ∙ q

-- known bytes that stayed, and then got more
pub keeps_then_appends : (a b c : Option (List ℕ)) (x : List ℕ) → Keeps a b → Appends b c x → Appends a c x
keeps_then_appends None b c x p q = tt
keeps_then_appends (Some old) None c x p q = absurd p
keeps_then_appends (Some old) (Some new) None x p q = absurd q
keeps_then_appends (Some old) (Some new) (Some last) x p q = q ∙ ap (λ (l : List ℕ). l ++ x) p

-- known bytes that got more, and then stayed
pub appends_then_keeps : (a b c : Option (List ℕ)) (x : List ℕ) → Appends a b x → Keeps b c → Appends a c x
appends_then_keeps None b c x p q = tt
appends_then_keeps (Some old) None c x p q = absurd p
appends_then_keeps (Some old) (Some new) None x p q = absurd q
appends_then_keeps (Some old) (Some new) (Some last) x p q = q ∙ p

-- known bytes stay over two steps
pub keeps_then : (a b c : Option (List ℕ)) → Keeps a b → Keeps b c → Keeps a c
keeps_then None b c p q = tt
keeps_then (Some old) None c p q = absurd p
keeps_then (Some old) (Some new) None p q = absurd q
keeps_then (Some old) (Some new) (Some last) p q = q ∙ p

-- known bytes stay where nothing was done
pub keeps_same : (a : Option (List ℕ)) → Keeps a a
keeps_same None = tt
keeps_same (Some old) = refl

-- what was read to the end is all that was left
pub drained : (old new : Option (List ℕ)) (bytes : List ℕ) → Consumes old new bytes → IsAtEnd new → IfSome old (λ left. (bytes ≡ left) × (new ≡ Some []))
drained None new bytes p e = tt
drained (Some left) None bytes p e = absurd p
drained (Some left) (Some rest) bytes p e = (sym (p ∙ ap (λ (l : List ℕ). bytes ++ l) e ∙ append-nil bytes), ap (λ (l : List ℕ). Some l) e)

-- at least as many bytes were left as were lost
pub lost_were_left : (old new : Option (List ℕ)) (count : ℕ) → LosesCount old new (count + 1) → IfSome old (λ left. count < length left)
lost_were_left None new count l = tt
lost_were_left (Some left) None count l = absurd l.1
lost_were_left (Some left) (Some rest) count l = let e = ap length l.1 ∙ length-append l.0 rest in let n = l.2 in omega arith

-- the words of sources and sinks
pub ruleset pieces = (drained, lost_were_left, keeps_then_consumes, keeps_then_appends, appends_then_keeps, keeps_then, keeps_same)

-- a front that grew by a piece of the rest
pub grown : (bytes front rest : List ℕ) (n : ℕ) → bytes ≡ front ++ rest → bytes ≡ (front ++ take n rest) ++ drop n rest
grown bytes front rest n e = e ∙ ap (λ (l : List ℕ). front ++ l) (sym (take-append-drop n rest)) ∙ sym (append_assoc front (take n rest) (drop n rest))
