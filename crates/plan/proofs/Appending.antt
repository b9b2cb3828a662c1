-- How the waits of a network come to stand behind those of a plan.
use Rattle.std.proofs.Common.{◌≡◌, ℕ, ◌+◌, ◌<◌, List, ◌++◌, length, take, drop, set, refl, sym, ap, ◌∙◌, add-zero, arith}
use Rattle.std.proofs.lemmas.List.{append-nil, drop-drop}
use Rattle.amount.specs.Rows.{Row}
use Rattle.network.specs.declared.Wait.{Wait}
use Rattle.network.specs.Networks.{PlainWait, wait_at}
use Rattle.plan.proofs.Written.{first_push}
use Rattle.plan.proofs.Lists.{put_edits}
use Rattle.plan.proofs.Meant.{written_more}
use Rattle.plan.proofs.RecordRows.{Starts, Ends, plain_by, meant_by}

-- the first i of ws stand behind the first `at` records, and the records past them stay
pub record Appending {S : Type 0} (d : ℕ) (row : S → Row d) (n at : ℕ) (old : List (Wait S)) (ws : List PlainWait) (i : ℕ) (new : List (Wait S)) : Type 0 where
  pub size : length new ≡ length old
  pub list : meant_by d row (at + i) new ≡ meant_by d row at old ++ take i ws
  pub past : drop (at + i) new ≡ drop (at + i) old
  pub starts : Starts n (at + i) new
  pub ends : Ends n (at + i) new

-- before the first
pub appending_none : {S : Type 0} (d : ℕ) (row : S → Row d) (n at : ℕ) (old : List (Wait S)) (ws : List PlainWait) → Starts n at old → Ends n at old → Appending d row n at old ws 0 old
appending_none d row n at old ws s e =
    record {
      size = refl;
      list = simp (add-zero, append-nil);
      past = refl;
      starts = rw add-zero s;
      ends = rw add-zero e;
    }

-- equal from k on, equal from one place later
drop_one : {W : Type 0} (new old : List W) (k : ℕ) → drop k new ≡ drop k old → drop (k + 1) new ≡ drop (k + 1) old
drop_one new old k e = sym (drop-drop 1 k new) ∙ ap (drop 1) e ∙ drop-drop 1 k old

module _ {S : Type 0} (d : ℕ) (row : S → Row d) (n at : ℕ) (old : List (Wait S)) (ws : List PlainWait) (i : ℕ) (new : List (Wait S)) (h : Appending d row n at old ws i new) where
  -- one wait more
  pub appending_more : (w : Wait S) → at + i < length new → i < length ws → plain_by d row w ≡ wait_at ws i → w.start < n → w.end < n
      → Appending d row n at old ws (i + 1) (set new (at + i) w)
  appending_more w in' lt is s t =
      let e : at + (i + 1) ≡ (at + i) + 1 = omega arith in
      let put = put_edits new (at + i) w in' in
      record {
        size = put.size ∙ h.size;
        list = rw e (written_more (plain_by d row) (at + i) new (meant_by d row at old) ws i w in' lt is h.list);
        past = rw e (put.past ∙ drop_one new old (at + i) h.past);
        starts = rw e (first_push (λ v. v.start < n) new (at + i) _ in' s h.starts);
        ends = rw e (first_push (λ v. v.end < n) new (at + i) _ in' t h.ends);
      }
