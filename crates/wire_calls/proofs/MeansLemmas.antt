-- Which call the bytes of a body mean.
use Rattle.std.proofs.Common.{◌≡◌, ◌≤◌, ℕ, List, Bool, true, false, Some, None, refl, sym, ap, ◌∙◌, subst}
use Rattle.std.specs.Prelude.{Option, Result, Ok, Err, IfOk, OnOk, IsUtf8, is_some, if◌then◌else◌}
use Rattle.serde_json.specs.Data.{Data, object, no_members, depth}
use Rattle.serde_json.specs.Find.{as_object}
use Rattle.serde_json.specs.Read.{read, max_depth}
use Rattle.ck_base.specs.Told.{IsToldUnless}
use Rattle.ck_base.specs.declared.route.Route.{Route}
use Rattle.wire_calls.specs.declared.call.Call.{Call}
use Rattle.wire_calls.specs.declared.call.Call.TheVariants.{Modify, Lookup}
use Rattle.wire_calls.specs.declared.fault.BadCall.{BadCall}
use Rattle.wire_calls.specs.declared.fault.BadCall.TheVariants.{NoMemory}
use Rattle.wire_calls.specs.Calls.{no_call, object_in, of_object, has_body, object_for, call_of, IsJson, IsBody}
use Rattle.wire_calls.specs.CallWriting.{call_data}
use Rattle.wire_calls.specs.Meant.{IsMeantCall, route_of, caller_of}
use Rattle.wire_calls.specs.Means.{Means}
use Rattle.wire_calls.proofs.CallTextLemmas.{calls_exact}
use Rattle.wire_calls.proofs.ReadsBackLemmas.{calls_read_back}

-- a call that is built has a body
calls_have_bodies : (c : Call) → has_body (route_of c).operation ≡ true
calls_have_bodies (Modify c) = refl
calls_have_bodies (Lookup c) = refl

module _ (route : Route) (caller body : List ℕ) where
  -- what JSON that is no object, or is one, is read as
  abbrev Read : Data → Result Call BadCall
  Read d = of_object route caller (object_in (Some d))

  -- what an object is read as
  of_members : (call : Call) (m : Means route caller body call) → Read m.json ≡ Ok call
  of_members call m = rw m.is_object m.members

  -- what is read is meant
  pub meant_by : (b : Bool) → has_body route.operation ≡ b → (d : Data) (call : Call) → IsBody b body d → Read d ≡ Ok call → Means route caller body call
  meant_by b bodied d call is read = by (is_some (as_object d)) refl read where
    by : (o : Bool) → is_some (as_object d) ≡ o → of_object route caller (if o then Some d else None) ≡ Ok call → Means route caller body call
    by true is_object members =
        record { json = d; is_body = subst (λ b. IsBody b body d) (sym bodied) is; is_object = is_object; members = members }
    by false none members = absurd (cc members)

  module _ (answer : Result Call BadCall) where
    abbrev Told : Result Call BadCall → Type 0
    Told read = IsToldUnless NoMemory answer read

    -- ---- a POST

    module _ (post : has_body route.operation ≡ true) (told : (d : Data) → IsJson body d → Told (Read d)) where
      pub told_json : (d : Data) → IsJson body d → Told (call_of route caller (Some d))
      told_json d is = subst (λ b. Told (of_object route caller (object_for b (Some d)))) (sym post) (told d is)

      pub means_only : (call : Call) → Means route caller body call → Told (Ok call)
      means_only call m other = told m.json (subst (λ b. IsBody b body m.json) post m.is_body) other ∙ of_members call m

    pub told_none : has_body route.operation ≡ true → Told (Err (no_call route.operation)) → Told (call_of route caller None)
    told_none post told = subst (λ b. Told (of_object route caller (object_for b None))) (sym post) told

    -- ---- a GET

    module _ (get : has_body route.operation ≡ false) (told : Told (of_object route caller (Some (object no_members)))) where
      pub told_empty : (json : Option Data) → Told (call_of route caller json)
      told_empty json = subst (λ b. Told (of_object route caller (object_for b json))) (sym get) told

      pub only_empty : (call : Call) → Means route caller body call → Told (Ok call)
      only_empty call m other =
          let empty : m.json ≡ object no_members = subst (λ b. IsBody b body m.json) get m.is_body in
          told other ∙ (ap Read (sym empty) ∙ of_members call m)

  -- what is read is meant, where it is read with or without its body
  pub means_read : has_body route.operation ≡ true → (answer : Result Call BadCall) → ((d : Data) → IsJson body d → IsToldUnless NoMemory answer (Read d))
      → OnOk answer ((d : Data) × IsJson body d) → IfOk answer (Means route caller body)
  means_read post (Ok call) told json =
      meant_by true post json.0 call json.1 (sym (told json.0 json.1 (λ memory. absurd (cc memory))))
  means_read post (Err fault) told json = tt

  pub means_empty : has_body route.operation ≡ false → (answer : Result Call BadCall)
      → IsToldUnless NoMemory answer (of_object route caller (Some (object no_members))) → IfOk answer (Means route caller body)
  means_empty get (Ok call) told = meant_by false get (object no_members) call refl (sym (told (λ memory. absurd (cc memory))))
  means_empty get (Err fault) told = tt

-- the text of a call that some body means is one that means it
pub text_means : (c : Call) (text : List ℕ) (d : Data) → d ≡ call_data c → IsUtf8 text → (depth d ≤ max_depth → read text ≡ Some d) → IsMeantCall c
    → Means (route_of c) (caller_of c) text c
text_means c text d is utf8 reads meant =
    let shallow : depth d ≤ max_depth = subst (λ e. depth e ≤ max_depth) (sym is) (calls_exact c meant).shallow in
    let json : IsJson text (call_data c) = record { text = utf8; reads = reads shallow ∙ ap Some is } in
    let bodied = calls_have_bodies c in
    let read_back : of_object (route_of c) (caller_of c) (object_in (Some (call_data c))) ≡ Ok c =
    subst (λ b. of_object (route_of c) (caller_of c) (object_for b (Some (call_data c))) ≡ Ok c) bodied (calls_read_back c meant) in
    meant_by (route_of c) (caller_of c) text true bodied (call_data c) c json read_back
