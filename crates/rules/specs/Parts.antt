-- The parts of the classes are fair: raising times never lowers them, and they stay small.
use Rattle.std.specs.Prelude.{ℕ, ◌+◌, ◌-◌, ◌*◌, ◌/◌, ◌^◌, ◌≤◌, max, Bool, cond, nat_eq}
use Rattle.std.proofs.lemmas.Nat.{le-div}
use Rattle.std.proofs.Common.{div-mul-le_self, div-le_self, mul-le-mul, mul-le-mul_right, le_trans, arith}
use Rattle.model.specs.declared.item.Item.{Item}
use Rattle.model.specs.Items.{Valid, jitter_of}
use Rattle.model.proofs.Folds.{cond_rises, cond_small}
use Rattle.rules.specs.Sums.{⌊◌/◌⌋, ⌈◌/◌⌉, Part, Fair, arrivals}
use Rattle.rules.specs.Processor.{work}
use Rattle.rules.specs.Can.{frames, queued}
use Rattle.rules.specs.Gateway.{bytes}

div_rises : (a b d : ℕ) → 1 ≤ d → a ≤ b → a / d ≤ b / d
div_rises a b d pos h = le-div (a / d) b d (omega arith) (le_trans (div-mul-le_self a d) h)

pub floor_rises : (a b d : ℕ) → a ≤ b → ⌊ a / d ⌋ ≤ ⌊ b / d ⌋
floor_rises a b d h = div_rises a b (max 1 d) (omega arith) h

pub ceiling_rises : (a b d : ℕ) → a ≤ b → ⌈ a / d ⌉ ≤ ⌈ b / d ⌉
ceiling_rises a b d h = div_rises _ _ (max 1 d) (omega arith) (omega arith)

-- so many at each arrival: one lemma for frames, bytes and what is queued
each_fair : (n : ℕ) (h : Item → ℕ) → ((x : Item) → Valid x → h x ≤ n) → Fair (2000001 * n) (λ mine own other its. arrivals own other its * h other)
each_fair n h small =
    record {
      rises = λ x y s s' t t' vx vy w l. mul-le-mul_right (h y) (omega (arith, floor_rises (s.wait + jitter_of y t) (s'.wait + jitter_of y t') y.period (omega arith)));
      small = λ x y s t vx vy ss st. mul-le-mul (omega (arith, div-le_self (s.wait + jitter_of y t) (max 1 y.period))) (small y vy);
    }

fair_more : (m n : ℕ) (f : Part) → m ≤ n → Fair m f → Fair n f
fair_more m n f h fair = record { rises = fair.rises; small = λ x y s t vx vy ss st. le_trans (fair.small x y s t vx vy ss st) h }

cond_fair : (m : ℕ) (b : Item → Item → Bool) (f : Part) → Fair m f → Fair m (λ x s y t. cond (b x y) (f x s y t) 0)
cond_fair m b f fair =
    record {
      rises = λ x y s s' t t' vx vy w l. cond_rises (b x y) (fair.rises x y s s' t t' vx vy w l);
      small = λ x y s t vx vy ss st. cond_small (b x y) (fair.small x y s t vx vy ss st);
    }

pub frames_fair : Fair (2 ^ 42) frames
frames_fair = fair_more (2000001 * 1000000) _ _ (omega arith) (each_fair 1000000 (λ x. x.duration) (λ x v. omega arith))

pub bytes_fair : Fair (2 ^ 33) bytes
bytes_fair = fair_more (2000001 * 255) _ _ (omega arith) (each_fair 255 (λ x. x.size) (λ x v. omega arith))

pub queued_fair : Fair (2 ^ 33) queued
queued_fair = cond_fair _ (λ x y. nat_eq x.queue y.queue) bytes bytes_fair

pub loads_fair : (f : Part) → Fair (2 ^ 33) f → Fair (2 ^ 42) f
loads_fair f fair = fair_more (2 ^ 33) _ f (omega arith) fair

pub work_fair : Fair (2 ^ 42) work
work_fair =
    record {
      rises = λ x y s s' t t' vx vy w l. mul-le-mul_right y.duration (ceiling_rises _ _ y.period (omega arith));
      small = λ x y s t vx vy ss st.
          let n = s.wait + x.duration + jitter_of y t in
          let few : ⌈ n / y.period ⌉ ≤ 4000000 = omega (arith, div-le_self (n + (max 1 y.period - 1)) (max 1 y.period)) in
          omega (arith, mul-le-mul few vy.duration_high);
    }
