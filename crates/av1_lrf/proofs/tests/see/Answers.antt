use Rattle.std.proofs.Common.{ℕ, pos, arith, sym, subst, w8, Fits}
use Rattle.std.proofs.lemmas.List.{length-map, get_or-map}
use Rattle.av1_plane.specs.Numbers.{InDepth}
use Rattle.av1_lrf.proofs.tests.see.Goals as goal

-- a number that fits 8 bits is in depth at 8 bits
byte : (n : ℕ) → Fits w8 n → InDepth 256 (pos n)
byte n h = (grind arith, grind arith)

pub returns : goal.returns
returns c = record { each = λ k d l. let m = simp length-map at l in subst (InDepth 256) (sym (get_or-map (λ (n : ℕ). pos n) c.args.samples.now k 0 d m)) (byte _ (c.type_inv.samples k)) }
