use Rattle.std.proofs.Common.{rules, lit<, ◌≡◌, ◌∙◌, ◌<◌, ◌++◌, [], ◌∷◌, List, All, Option, Some, IfSome, option_to_list, ap, sym, subst}
use Rattle.std.proofs.lemmas.List.Elements.{All-pop, All-push}
use Rattle.embedded_fib.proofs.main.Goals as goal

-- what is so of all is so of the one that is taken, and of the others
taken : {A : Type 0} (P : A → Type 0) (xs ys : List A) (r : Option A) (x : A) → xs ≡ ys ++ option_to_list r → r ≡ Some x → All P xs → P x × All P ys
taken P xs ys r x items is all =
    let popped = All-pop P xs ys r items all in (subst (λ s. IfSome s P) is popped.1, popped.0)

pub learn-requires : goal.learn-requires
learn-requires g c =
    let t = c.in_ok-publisher.publisher.table in
    let made = c.in_ok-publisher.ensures.passes in
    let new : All (λ p. p.seat.table ≡ t) c.in_ok-publisher.passes.items = λ k d l. ap (λ p. p.seat.table) (made.new k d (subst (λ n. k < n) made.count l)) in
    let got : c.pop.result ≡ Some c.in_ok-one.one = search rules in
    let one = taken (λ p. p.seat.table ≡ t) c.in_ok-publisher.passes.items c.pop.new.self.items c.pop.result c.in_ok-one.one c.pop.ensures.items got new in
    let told = ap (λ n. n.table) c.in_ok-tell.ensures.note in
    (lit< tt, (lit< tt, told ∙ (c.in_ok-writer.ensures.table ∙ sym one.0)))

pub learn-requires-2 : goal.learn-requires-2
learn-requires-2 g c =
    let t = c.in_ok-publisher.publisher.table in
    let made = c.in_ok-publisher.ensures.passes in
    let new : All (λ p. p.seat.table ≡ t) c.in_ok-publisher.passes.items = λ k d l. ap (λ p. p.seat.table) (made.new k d (subst (λ n. k < n) made.count l)) in
    let got : c.pop.result ≡ Some c.in_ok-one.one = search rules in
    let got_two : c.pop-2.result ≡ Some c.in_ok-two.two = search rules in
    let one = taken (λ p. p.seat.table ≡ t) c.in_ok-publisher.passes.items c.pop.new.self.items c.pop.result c.in_ok-one.one c.pop.ensures.items got new in
    let two = taken (λ p. p.seat.table ≡ t) c.pop.new.self.items c.pop-2.new.self.items c.pop-2.result c.in_ok-two.two c.pop-2.ensures.items got_two one.1 in
    let told = ap (λ n. n.table) c.in_ok-tell-2.ensures.note in
    let kept = ap (λ w. w.table) c.in_ok-tell.ensures.seat in
    (lit< tt, (lit< tt, told ∙ (kept ∙ (c.in_ok-writer.ensures.table ∙ sym two.0))))

pub close-requires : goal.close-requires
close-requires g c =
    let t = c.in_ok-publisher.publisher.table in
    let made = c.in_ok-publisher.ensures.passes in
    let new : All (λ p. p.seat.table ≡ t) c.in_ok-publisher.passes.items = λ k d l. ap (λ p. p.seat.table) (made.new k d (subst (λ n. k < n) made.count l)) in
    let got : c.pop.result ≡ Some c.in_ok-one.one = search rules in
    let got_two : c.pop-2.result ≡ Some c.in_ok-two.two = search rules in
    let one = taken (λ p. p.seat.table ≡ t) c.in_ok-publisher.passes.items c.pop.new.self.items c.pop.result c.in_ok-one.one c.pop.ensures.items got new in
    let two = taken (λ p. p.seat.table ≡ t) c.pop.new.self.items c.pop-2.new.self.items c.pop-2.result c.in_ok-two.two c.pop-2.ensures.items got_two one.1 in
    let back : c.join-one.result.0.0.seat.table ≡ c.learn.new.self.seat.table = search rules in
    let back_two : c.join-one.result.0.1.seat.table ≡ c.learn-2.new.self.seat.table = search rules in
    let last : c.in_ok-writer-2.field-0.1.table ≡ c.tell-2.new.self.table = search rules in
    let same : c.in_ok-writer-2.field-0.1.table ≡ t = last ∙ (ap (λ w. w.table) c.in_ok-tell-2.ensures.seat ∙ (ap (λ w. w.table) c.in_ok-tell.ensures.seat ∙ c.in_ok-writer.ensures.table)) in
    let first : c.join-one.result.0.0.seat.table ≡ t = back ∙ (ap (λ s. s.table) c.learn.ensures.seat ∙ one.0) in
    let second : c.join-one.result.0.1.seat.table ≡ t = back_two ∙ (ap (λ s. s.table) c.learn-2.ensures.seat ∙ two.0) in
    let items : c.push.new.self.items ≡ c.pop-2.new.self.items ++ c.join-one.result.0.0 ∷ [] = search rules in
    let items_two : c.push-2.new.self.items ≡ c.push.new.self.items ++ c.join-one.result.0.1 ∷ [] = search rules in
    let all = subst (All (λ p. p.seat.table ≡ t)) (sym items) (All-push (λ p. p.seat.table ≡ t) c.pop-2.new.self.items c.join-one.result.0.0 two.1 first) in
    let all_two = subst (All (λ p. p.seat.table ≡ t)) (sym items_two) (All-push (λ p. p.seat.table ≡ t) c.push.new.self.items c.join-one.result.0.1 all second) in
    (lit< tt, (lit< tt, (lit< tt, (lit< tt, subst (λ u. All (λ p. p.seat.table ≡ u) c.push-2.new.self.items) (sym same) all_two))))
