use Rattle.std.proofs.Common.{◌≡◌, ℕ, suc, ◌+◌, ◌<◌, ◌%◌, List, [], ◌∷◌, ◌++◌, length, get_or, take, bit_and, encode_utf8, IsAscii, sym, ap, ◌∙◌, subst, append_assoc, arith, rules}
use lib.Seq.{take-suc}
use Rattle.std.proofs.lemmas.Nat.{and_mask}
use Rattle.std.proofs.lemmas.Str.{encode_ascii}
use Rattle.std.proofs.lemmas.List.{append-nil, length-append, take_all}
use Rattle.report.proofs.text.append.Goals as goal

-- the mask changes no byte of ASCII
masked : (b : ℕ) → b < 128 → bit_and b 127 ≡ b
masked b h = let e : b % 128 ≡ b = omega arith in and_mask b 7 ∙ e

one_byte : (b : ℕ) → b < 128 → length (encode_utf8 (bit_and b 127)) ≡ 1
one_byte b h = ap (λ x. length (encode_utf8 x)) (masked b h) ∙ ap length (encode_ascii b h)

-- so is each byte of what is ASCII
below : (bs cs : List ℕ) (i : ℕ) → bs ≡ cs → IsAscii cs → get_or bs i 0 < 128
below bs cs i same h = subst (λ ds. get_or ds i 0 < 128) (sym same) (h i)

-- one more byte at the end
grown : (initial before after bs : List ℕ) (i b : ℕ) → i < length bs → b ≡ get_or bs i 0 → before ≡ initial ++ take i bs → after ≡ before ++ (b ∷ []) → after ≡ initial ++ take (i + 1) bs
grown initial before after bs i b l at written wrote =
    let on : i + 1 ≡ suc i = omega arith in
    wrote ∙ ap (λ q. q ++ (b ∷ [])) written ∙ append_assoc initial (take i bs) (b ∷ [])
    ∙ ap (λ q. initial ++ q) (ap (λ x. take i bs ++ (x ∷ [])) at ∙ sym (ap (λ n. take n bs) on ∙ take-suc bs i 0 l))

pub loop-byte-init : goal.loop-byte-init
loop-byte-init g c = record { bytes = sym (append-nil c.args.text.now.bytes); len = omega arith }

pub push-requires : goal.push-requires
push-requires g c =
    let bs = c.as_bytes-byte-items.result.now in
    let i = c.loop-byte.byte-index in
    let l = below bs c.args.piece.now i c.as_bytes-byte-items.ensures.value c.requires.ascii in
    let one = one_byte (get_or bs i 0) l in
    (search rules, omega arith)

pub loop-byte-preserved : goal.loop-byte-preserved
loop-byte-preserved g c =
    let bs = c.as_bytes-byte-items.result.now in
    let i = c.loop-byte.byte-index in
    let l = below bs c.args.piece.now i c.as_bytes-byte-items.ensures.value c.requires.ascii in
    let same = masked (get_or bs i 0) l in
    let wrote = c.push.ensures.ascii (omega arith) in
    record {
      bytes = grown c.args.text.now.bytes _ _ bs i (bit_and (get_or bs i 0) 127) c.loop-byte-test.true same c.loop-byte.invariant.bytes wrote;
      len = omega (arith, ap length wrote, length-append c.loop-byte.text.bytes (bit_and (get_or bs i 0) 127 ∷ []));
    }

pub returns-clause-bytes : goal.returns-clause-bytes
returns-clause-bytes g c =
    let bs = c.as_bytes-byte-items.result.now in
    c.loop-byte.invariant.bytes ∙ ap (λ q. c.args.text.now.bytes ++ q) (take_all c.loop-byte.byte-index bs (omega arith) ∙ c.as_bytes-byte-items.ensures.value)

pub returns-clause-len : goal.returns-clause-len
returns-clause-len g c = omega (arith, ap length c.as_bytes-byte-items.ensures.value)
