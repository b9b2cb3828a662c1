-- One write after another.
use Rattle.std.proofs.Common.{◌≡◌, ℕ, ◌+◌, ◌≤◌, List, [], ◌++◌, length, take, drop, sym, ap, ◌∙◌, subst, append_assoc, arith, length-append, length-drop}
use Rattle.std.proofs.lemmas.List.{take_at, drop_at, drop-drop, length-take-le, take-append-drop}
use Rattle.report.specs.Writing.{Wrote}

-- a write keeps the length
pub same_length : {a b : List ℕ} {from to : ℕ} {xs : List ℕ} → Wrote a b from to xs → length b ≡ length a
same_length {a} {b} {from} {to} {xs} w =
    let l : length (take from a) ≡ from = length-take-le from a (omega (arith, w.ends)) in
    let k : length (drop to a) + to ≡ length a = omega (arith, length-drop to a) in
    ap length w.text ∙ simp length-append (omega (arith, w.ends))

-- two writes, the second from where the first ended, are one write of both runs of bytes
pub then : {a b d : List ℕ} {from mid to : ℕ} {xs ys : List ℕ} → Wrote a b from mid xs → Wrote b d mid to ys → Wrote a d from to (xs ++ ys)
then {a} {b} {d} {from} {mid} {to} {xs} {ys} w v =
    let l : length (take from a) ≡ from = length-take-le from a (omega (arith, w.ends)) in
    let n : length (take from a ++ xs) ≡ mid = length-append (take from a) xs ∙ omega (arith, w.ends) in
    let e : b ≡ (take from a ++ xs) ++ drop mid a = w.text ∙ sym (append_assoc (take from a) xs (drop mid a)) in
    let t : take mid b ≡ take from a ++ xs = ap (take mid) e ∙ take_at (take from a ++ xs) (drop mid a) mid n in
    let u : drop mid b ≡ drop mid a = ap (drop mid) e ∙ drop_at (take from a ++ xs) (drop mid a) mid n in
    let z : drop to b ≡ drop to a =
    ap (λ k. drop k b) v.ends ∙ sym (drop-drop (length ys) mid b) ∙ ap (drop (length ys)) u ∙ drop-drop (length ys) mid a ∙ ap (λ k. drop k a) (sym v.ends) in
    record {
      ends = simp length-append (omega (arith, w.ends, v.ends));
      room = omega (arith, v.room, same_length w);
      text = v.text ∙ ap (λ q. q ++ (ys ++ drop to b)) t ∙ ap (λ q. (take from a ++ xs) ++ (ys ++ q)) z ∙ append_assoc (take from a) xs (ys ++ drop to a) ∙ ap (λ q. take from a ++ q) (sym (append_assoc xs ys (drop to a)));
    }

-- a write of the same bytes under another name
pub as_bytes : {a b : List ℕ} {from to : ℕ} {xs ys : List ℕ} → ys ≡ xs → Wrote a b from to xs → Wrote a b from to ys
as_bytes {a} {b} {from} {to} e w = subst (λ zs. Wrote a b from to zs) (sym e) w

-- writing nothing
pub nothing : (a : List ℕ) (at : ℕ) → at ≤ length a → Wrote a a at at []
nothing a at h = record { ends = omega arith; room = h; text = sym (take-append-drop at a) }
