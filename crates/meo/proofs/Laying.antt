-- What is laid over a house message is the message.
use Rattle.std.specs.Prelude.{◌≡◌, refl, true, List, [], ◌∷◌, ◌++◌, ℕ, ◌≤◌, length, drop, replicate}
use Rattle.std.proofs.Common.{◌∙◌, append_assoc, arith, length-append, length-drop}
use Rattle.fields.specs.Parts.{stretch}
use Rattle.fields.specs.Out.{out, puts, begun}
use Rattle.meo.specs.Table.{lay}
use Rattle.meo.specs.Messages.{order_said, in_form, is_message, message}
use Rattle.meo.specs.Parts.{stretch_before, drop_before, next, begins_next}
use Rattle.meo.specs.Laying.{message_long, message_length, own, own_length, in_parts}
use Rattle.meo.specs.declared.NewOrder.{NewOrder}

-- from the house message copied in, what each of the three puts leaves
pub message_laid : (l : List ℕ) (n : NewOrder) (h b : List ℕ) → is_message h ≡ true → in_form l n ≡ true → 131 ≤ length b
    → (d e f g : List ℕ) (i j k : ℕ) → d ≡ h ++ drop 131 b → out e i ≡ puts (out d 10) (lay h 10 (own (order_said l n)))
    → out f j ≡ puts (out e 87) (replicate 20 0) → out g k ≡ puts (out f 111) (32 ∷ []) → g ≡ begun (message h (order_said l n)) b
message_laid l n h b t ok long d e f g i j k d_is q r s =
    let o = order_said l n in
    let hl = message_long h t in
    let al = own_length l n h ok hl in
    let dl : length d ≡ length b = rw (d_is, length-append, length-drop) (omega arith) in
    let A = lay h 10 (own o) in
    let Z : List ℕ = replicate 20 0 in
    let x = next d [] 10 A in
    let y = next d x 87 Z in
    let one = begins_next d [] d e 10 i A refl (omega arith) (omega (arith, al)) q in
    let two = begins_next d x e f 87 j Z one.1 (omega (arith, one.0, al)) (omega arith) r in
    let three = begins_next d y f g 111 k (32 ∷ []) two.1 (omega (arith, two.0)) (omega arith) s in
    let xl : length x ≡ 52 = omega (arith, one.0, al) in
    let yl : length y ≡ 107 = omega (arith, two.0) in
    let zl : length (next d y 111 (32 ∷ [])) ≡ 112 = omega (arith, three.0) in
    let g_is : g ≡ (((stretch h 0 10 ++ A) ++ (stretch h 52 87 ++ Z)) ++ (stretch h 107 111 ++ (32 ∷ []))) ++ (stretch h 112 131 ++ drop 131 b) = three.1 ∙ rw (zl, yl, xl, d_is, stretch_before h (drop 131 b) 0 10 (omega arith) (omega arith), stretch_before h (drop 131 b) 52 87 (omega arith) (omega arith), stretch_before h (drop 131 b) 107 111 (omega arith) (omega arith), drop_before h (drop 131 b) 112 131 (omega arith) (omega arith)) in
    g_is ∙ rw (message_length l n h ok hl, in_parts h o t) (simp append_assoc)
